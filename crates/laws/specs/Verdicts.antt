-- What the letter of a verdict says: O is never printed for vertices that have a perfect matching, F only together with one, whose pairs are
-- printed, and U only if there is no inverse, and an even number of vertices. Assumes nothing.
use Rattle.std.specs.Prelude.{◌≡◌, ◌↔◌, length, get_or, take, replicate}
use Rattle.std.proofs.Math.Path.{refl}
use Rattle.std.proofs.Common.{sym, ap, ◌∙◌, arith, length-append}
use mathlib.Core.List.{List, [], ◌∷◌, ◌++◌, append_assoc}
use Prim.Native.Nat.{ℕ, zero, suc, ◌+◌, ◌%◌, ◌<◌}
use Rattle.std.proofs.Math.Decide.{ℕ_discrete}
use Rattle.std.proofs.Math.Seq.{get_or-append_seam}
use Rattle.lists.specs.Choose.{choose}
use Rattle.modular.specs.Prime.{OddPrime}
use Rattle.skew.specs.Subset.{Subset, ◌∈◌, count}
use Rattle.skew.proofs.Decide.{witness_singular}
use Rattle.skew.proofs.Matching.{invertible_even}
use Rattle.matching.specs.Decision.{place_number, Refusal, Every}
use Rattle.matching.specs.Edition.{Edition}
use Rattle.matching.specs.Graph.{Graph, tutte}
use Rattle.matching.specs.Pairs.{Pair, Pairs, unmatched}
use Rattle.matching.specs.Matching.{Matching, empty, Perfect}
use Rattle.matching.specs.Model.{automatic, Nonsingular, step, pairs_after, PicksToCome, stopped, picked}
use Rattle.matching.proofs.Model.{skew}
use Rattle.matching.specs.Filling.{graph}
use Rattle.matching.specs.Records.{sheet, ReadsAs}
use Rattle.matching.specs.Listing.{input_limit, decimal, text_verdict, text_refused, text_at, line_feed, first_line, pair_lines, witness_lines, letter_full, letter_odd, letter_undecided, witness_letter, verdict_line, refused_line, GraphLines, pairs_up, shows_witness, players_of, Lists, refuses_sheet, lists_sheet}
use Rattle.laws.specs.MatchingLaws.{perfect_half, odd_imperfect}
use Rattle.laws.specs.ModelLaws.{Automatic, lowest, nobody, automatic_cases, step_nonsingular, picks_to_come, unlike}
use Rattle.laws.specs.History.{change, change_matching}
use Rattle.laws.specs.OpeningOutcome.{count_vertices}
use Rattle.laws.specs.Reading.{reads_unique}
use Rattle.laws.specs.Outcomes.{sheets}
use Rattle.laws.specs.Decimal.{decimal_last}

-- automatic picks to the end turn a matching of vertices of S into a perfect one
module _ {p : ℕ} (P : OddPrime p) (g : Graph) (S : Subset) where
  pub picks_perfect : (m : ℕ) (pairs : Pairs) → Matching g S pairs → Nonsingular P g S pairs → PicksToCome P g S pairs m
      → Perfect g S (pairs_after P g S pairs (replicate m automatic) m)
  unfolding pairs_after
  picks_perfect zero pairs M I (stopped {r = why} e) = record { matching = M; none_left = go (automatic_cases P g S pairs I) }
    where
      go : Automatic P g S pairs → Every g.n (λ v. ¬ (v ∈ unmatched S pairs))
      go (lowest c r C R t) = absurd (unlike {r = why} (ap (λ s. s.answer) t) e)
      go (nobody h t) = h
  picks_perfect (suc m) pairs M I (picked a rest) =
      picks_perfect m (step P g S pairs automatic).pairs
      (change_matching P g S pairs _ (change P g S pairs automatic I) M)
      (step_nonsingular P g S pairs automatic I) rest

  -- so a set with an inverse has a perfect matching
  pub invertible_perfect : Nonsingular P g S [] → (pairs : Pairs) × Perfect g S pairs
  invertible_perfect I =
      let m = invertible_even P g.n (tutte g p) (skew P g) I in (_, picks_perfect m.0 [] empty I (picks_to_come P g S m.0 [] I m.1))

-- the text ends in this letter and a line feed
pub record Ends (text : List ℕ) (letter : ℕ) : Type 0 where
  pub front : List ℕ
  pub is : text ≡ front ++ letter ∷ line_feed

-- a text ends in one letter only
pub ends_unique : {text : List ℕ} {c d : ℕ} → Ends text c → Ends text d → c ≡ d
ends_unique {text} {c} {d} E F =
    let same = sym E.is ∙ F.is in
    let l : length E.front ≡ length F.front =
    omega (arith, ap length same, length-append E.front (c ∷ line_feed), length-append F.front (d ∷ line_feed)) in
    sym (get_or-append_seam E.front c line_feed 0)
    ∙ ap (λ t. get_or t (length E.front) 0) same
    ∙ ap (λ k. get_or (F.front ++ d ∷ line_feed) k 0) l
    ∙ get_or-append_seam F.front d line_feed 0

-- what stands before a text does not change its end
ends_after : (a : List ℕ) {b : List ℕ} {c : ℕ} → Ends b c → Ends (a ++ b) c
ends_after a E = record { front = a ++ E.front; is = ap (λ t. a ++ t) E.is ∙ sym (append_assoc a E.front _) }

-- a verdict ends in its letter
ends_verdict : (letter : ℕ) → Ends (verdict_line letter) letter
ends_verdict letter = record { front = text_verdict; is = refl }

-- a text that is the end of another has its letter
ends_within : (a : List ℕ) {b : List ℕ} {c d : ℕ} → Ends b c → Ends (a ++ b) d → Ends b d
ends_within a {b} E F = rw (ends_unique F (ends_after a E)) E

-- a refusal ends in a digit
ends_refused : (r : Refusal) → (d : ℕ) × (d < 10) × Ends (refused_line r) (48 + d)
ends_refused r =
    let k = place_number r.place in
    let front = text_refused ++ decimal r.cause ++ text_at in
    let D = decimal_last k in
    let last : Ends (decimal k ++ line_feed) (48 + D.1) =
    record { front = D.0; is = ap (λ t. t ++ line_feed) D.3 ∙ append_assoc D.0 ((48 + D.1) ∷ []) line_feed } in
    let E = ends_after front last in
    (D.1, D.2, record { front = E.front; is = append_assoc front (decimal k) line_feed ∙ E.is })

-- the lines of a graph, for a set S of vertices in play
module _ {p : ℕ} (P : OddPrime p) (g : Graph) (S : Subset) where
  -- what the letter says: F, there is an inverse, and the pairs of a perfect matching are listed; O, there is none, and S is odd in number; U,
  -- there is none, and S is even in number
  pub data Says (lines : List ℕ) : Type 0 where
    full : Ends lines letter_full → Nonsingular P g S [] → (pairs : Pairs) → Perfect g S pairs → lines ≡ pair_lines pairs ++ verdict_line letter_full → Says lines
    odd : Ends lines letter_odd → ¬ Nonsingular P g S [] → count g.n S % 2 ≡ 1 → Says lines
    undecided : Ends lines letter_undecided → ¬ Nonsingular P g S [] → count g.n S % 2 ≡ 0 → Says lines

  pub lines_say : {lines : List ℕ} → GraphLines P g S lines → Says lines
  unfolding unmatched
  lines_say (pairs_up {m = m} I c) =
      let pairs = pairs_after P g S [] (replicate m automatic) m in
      full (ends_after (pair_lines pairs) (ends_verdict letter_full)) I pairs (picks_perfect P g S m [] empty I c) refl
  lines_say (shows_witness {witness = w} l s) = go (ℕ_discrete (count g.n S % 2) 1)
    where
      none : ¬ Nonsingular P g S []
      none I = witness_singular P g.n (tutte g p) (skew P g) S s.kernel I

      go : (d : Dec (count g.n S % 2 ≡ 1)) → Says (witness_lines 0 w ++ verdict_line (choose d letter_odd letter_undecided))
      go (yes e) = odd (ends_after (witness_lines 0 w) (ends_verdict letter_odd)) none e
      go (no d) = undecided (ends_after (witness_lines 0 w) (ends_verdict letter_undecided)) none (omega arith)

  -- F exactly if there is an inverse, and O exactly if S is odd in number
  pub full_exactly : {lines : List ℕ} → GraphLines P g S lines → Ends lines letter_full ↔ Nonsingular P g S []
  full_exactly {lines} G = go (lines_say G)
    where
      go : Says lines → Ends lines letter_full ↔ Nonsingular P g S []
      go (full Y I _ _ _) = (λ _. I, λ _. Y)
      go (odd Y none _) = (λ X. absurd (omega (arith, ends_unique X Y)), λ I. absurd (none I))
      go (undecided Y none _) = (λ X. absurd (omega (arith, ends_unique X Y)), λ I. absurd (none I))

  pub odd_exactly : {lines : List ℕ} → GraphLines P g S lines → Ends lines letter_odd ↔ (count g.n S % 2 ≡ 1)
  odd_exactly {lines} G = go (lines_say G)
    where
      go : Says lines → Ends lines letter_odd ↔ (count g.n S % 2 ≡ 1)
      go (full Y _ _ F _) = (λ X. absurd (omega (arith, ends_unique X Y)), λ o. absurd (omega (arith, perfect_half g S F)))
      go (odd Y _ o) = (λ _. o, λ _. Y)
      go (undecided Y _ e) = (λ X. absurd (omega (arith, ends_unique X Y)), λ o. absurd (omega arith))

  -- O: there is no perfect matching
  pub lines_odd : {lines : List ℕ} → GraphLines P g S lines → Ends lines letter_odd → (pairs : Pairs) → ¬ Perfect g S pairs
  lines_odd G X = odd_imperfect g S ((odd_exactly G).0 X)

  -- F: there is one, and its pairs are listed
  pub lines_full : {lines : List ℕ} → GraphLines P g S lines → Ends lines letter_full
      → (pairs : Pairs) × Perfect g S pairs × (lines ≡ pair_lines pairs ++ verdict_line letter_full)
  lines_full {lines} G X = go (lines_say G)
    where
      go : Says lines → (pairs : Pairs) × Perfect g S pairs × (lines ≡ pair_lines pairs ++ verdict_line letter_full)
      go (full _ _ pairs F e) = (pairs, F, e)
      go (odd Y _ _) = absurd (omega (arith, ends_unique X Y))
      go (undecided Y _ _) = absurd (omega (arith, ends_unique X Y))

  -- if a text ends in these lines and in a letter, the lines end in that letter
  pub lines_end : (a : List ℕ) {lines : List ℕ} {letter : ℕ} → GraphLines P g S lines → Ends (a ++ lines) letter → Ends lines letter
  lines_end a {lines} {letter} G X = go (lines_say G)
    where
      go : Says lines → Ends lines letter
      go (full Y _ _ _ _) = ends_within a Y X
      go (odd Y _ _) = ends_within a Y X
      go (undecided Y _ _) = ends_within a Y X

-- the text that is printed for a sheet: the first line, and the lines of its graph
pub lists_lines : {E : Edition} {input text : List ℕ} {n : ℕ} {weights : List ℕ} {edges : List Pair} → Lists E input text
    → ReadsAs E (take input_limit input) (sheet n weights edges)
    → (lines : List ℕ) × GraphLines E.prime (graph n weights edges) (players_of n) lines × (text ≡ first_line n (length edges) ++ lines)
lists_lines (refuses_sheet R) R' = let q = reads_unique R R' in let z : ◌≡◌ {A = ℕ} 0 1 = cc in absurd (omega arith)
lists_lines (lists_sheet {lines = lines} R G) R' = let q = sheets (reads_unique R' R) in rw (q.0, q.1, q.2) (lines, G, refl)

-- a text that ends in O is not printed for a sheet that has a perfect matching
pub printed_odd : {E : Edition} {input text : List ℕ} {n : ℕ} {weights : List ℕ} {edges : List Pair} → Lists E input text → Ends text letter_odd
    → ReadsAs E (take input_limit input) (sheet n weights edges) → (pairs : Pairs) → ¬ Perfect (graph n weights edges) (players_of n) pairs
printed_odd {E} {n = n} {weights = weights} {edges = edges} L X R =
    let g = graph n weights edges in
    let T = lists_lines L R in
    lines_odd E.prime g (players_of n) T.1 (lines_end E.prime g (players_of n) (first_line n (length edges)) T.1 (rw T.2 at X))

-- and it is printed exactly if the number of vertices of the sheet is odd
pub printed_odd_exactly : {E : Edition} {input text : List ℕ} {n : ℕ} {weights : List ℕ} {edges : List Pair} → Lists E input text
    → ReadsAs E (take input_limit input) (sheet n weights edges) → Ends text letter_odd ↔ (n % 2 ≡ 1)
unfolding graph
printed_odd_exactly {E} {n = n} {weights = weights} {edges = edges} L R =
    let g = graph n weights edges in
    let T = lists_lines L R in
    let exactly = odd_exactly E.prime g (players_of n) T.1 in
    let size = count_vertices n in (
      λ X. omega (arith, size, exactly.0 (lines_end E.prime g (players_of n) (first_line n (length edges)) T.1 (rw T.2 at X))),
      λ o. rw T.2 (ends_after (first_line n (length edges)) (exactly.1 (omega (arith, size)))),
    )

-- the sheet of an input has a perfect matching, and the text lists its pairs
pub record PrintsPerfect (E : Edition) (input text : List ℕ) : Type 0 where
  pub n : ℕ
  pub weights : List ℕ
  pub edges : List Pair
  pub reads : ReadsAs E (take input_limit input) (sheet n weights edges)
  pub pairs : Pairs
  pub perfect : Perfect (graph n weights edges) (players_of n) pairs
  pub text_is : text ≡ first_line n (length edges) ++ (pair_lines pairs ++ verdict_line letter_full)

-- a text that ends in F is printed for such a sheet only
pub printed_full : {E : Edition} {input text : List ℕ} → Lists E input text → Ends text letter_full → PrintsPerfect E input text
printed_full (refuses_sheet {r = r} R) X = let d = ends_refused r in absurd (omega (arith, d.1, ends_unique X d.2))
printed_full {E} (lists_sheet {n = n} {weights = weights} {edges = edges} R G) X =
    let g = graph n weights edges in
    let F = lines_full E.prime g (players_of n) G (lines_end E.prime g (players_of n) (first_line n (length edges)) G X) in
    record {
      n = n;
      weights = weights;
      edges = edges;
      reads = R;
      pairs = F.0;
      perfect = F.1;
      text_is = ap (λ l. first_line n (length edges) ++ l) F.2;
    }
