-- The bytes of a matching as a sequence: the pairs can be read back, and it is well formed. Assumes nothing.
use Rattle.std.specs.Prelude.{◌≡◌, refl, ◌≢◌, get_or, take}
use Rattle.std.proofs.Common.{sym, ap, ◌∙◌, arith, get_or-append-add, take-suc, length-take-le, get_or-take, ext_get_or}
use mathlib.Core.List.{List, [], ◌∷◌, ◌++◌, append_assoc}
use Prim.Native.Nat.{ℕ, zero, suc, ◌+◌, ◌-◌, ◌/◌, ◌≤◌, ◌<◌}
use Rattle.std.proofs.Math.Decide.{ℕ_discrete, dec_lt}
use Rattle.std.proofs.Math.ListN.{length, replicate, length-append, length-replicate, get_or-append}
use Rattle.std.proofs.lemmas.List.{get_or-replicate}
use Rattle.std.proofs.Math.Seq.{get_or-append_seam}
use Rattle.skew.specs.Subset.{Subset, ◌∈◌, ◌∉◌, clash, Without, smaller, remove, remove_same, remove_other, count_most}
use Rattle.matching.specs.Decision.{Every}
use Rattle.matching.specs.Graph.{Graph, cell}
use Rattle.matching.specs.Pairs.{Pair, Pairs, unused, bytes, sequence, pairs_on, unmatched}
use Rattle.matching.specs.Matching.{Appendable, Matching, empty, another}
use Rattle.matching.specs.Session.{WellFormed}
use Rattle.laws.specs.MatchingLaws.{appendable_without, count_left}

pub length_bytes : (pairs : Pairs) → length (bytes pairs) ≡ length pairs + length pairs
unfolding bytes
length_bytes [] = refl
length_bytes (e ∷ earlier) = length-append (bytes earlier) (e.smaller ∷ e.larger ∷ []) ∙ omega (arith, length_bytes earlier)

-- the bytes of a list of pairs end in those of the newest
pub newest : (e : Pair) (earlier : Pairs) (rest : List ℕ) → bytes (e ∷ earlier) ++ rest ≡ bytes earlier ++ e.smaller ∷ e.larger ∷ rest
unfolding bytes
newest e earlier rest = append_assoc (bytes earlier) (e.smaller ∷ e.larger ∷ []) rest

module _ (earlier : Pairs) (a b : ℕ) (rest : List ℕ) where
  at_smaller : get_or (bytes earlier ++ a ∷ b ∷ rest) (length earlier + length earlier) 0 ≡ a
  at_smaller = ap (λ k. get_or (bytes earlier ++ a ∷ b ∷ rest) k 0) (sym (length_bytes earlier)) ∙ get_or-append_seam (bytes earlier) a (b ∷ rest) 0

  at_larger : get_or (bytes earlier ++ a ∷ b ∷ rest) (length earlier + length earlier + 1) 0 ≡ b
  at_larger =
      ap (λ k. get_or (bytes earlier ++ a ∷ b ∷ rest) (k + 1) 0) (sym (length_bytes earlier))
      ∙ get_or-append-add (bytes earlier) (a ∷ b ∷ rest) 1 0

-- the pairs are read back
pub pairs_on_bytes : (pairs : Pairs) (rest : List ℕ) → pairs_on (bytes pairs ++ rest) (length pairs) ≡ pairs
unfolding pairs_on
pairs_on_bytes [] rest = refl
pairs_on_bytes (e ∷ earlier) rest =
    ap (λ l. pairs_on l (suc (length earlier))) (newest e earlier rest)
    ∙ rw (at_smaller earlier e.smaller e.larger rest, at_larger earlier e.smaller e.larger rest, pairs_on_bytes earlier (e.smaller ∷ e.larger ∷ rest))

pub pairs_on_sequence : (n : ℕ) (pairs : Pairs) (rest : List ℕ) → pairs_on (sequence n pairs ++ rest) (length pairs) ≡ pairs
unfolding sequence
pairs_on_sequence n pairs rest = rw append_assoc (pairs_on_bytes pairs (replicate (n - (length pairs + length pairs)) unused ++ rest))

module _ (g : Graph) (S : Subset) where
  -- a property of the two vertices of every pair of a matching holds of their two bytes
  pub every_pair : (Q : ℕ → ℕ → Type 0) → ((e : Pair) (earlier : Pairs) → Appendable g S e earlier → Q e.smaller e.larger)
      → (pairs : Pairs) (rest : List ℕ) → Matching g S pairs
      → Every (length pairs) (λ k. Q (get_or (bytes pairs ++ rest) (k + k) 0) (get_or (bytes pairs ++ rest) (k + k + 1) 0))
  every_pair Q q [] rest empty k l = absurd (omega arith)
  every_pair Q q (e ∷ earlier) rest (another f M) k l =
      rw (newest e earlier rest) (go (ℕ_discrete k (length earlier)) (every_pair Q q earlier (e.smaller ∷ e.larger ∷ rest) M k))
    where
      xs : List ℕ
      xs = bytes earlier ++ e.smaller ∷ e.larger ∷ rest

      go : Dec (k ≡ length earlier) → (k < length earlier → Q (get_or xs (k + k) 0) (get_or xs (k + k + 1) 0)) → Q (get_or xs (k + k) 0) (get_or xs (k + k + 1) 0)
      go (yes h) r = rw (h, at_smaller earlier e.smaller e.larger rest, at_larger earlier e.smaller e.larger rest) (q e earlier f)
      go (no d) r = r (omega arith)

  -- every byte of the pairs is a vertex that they match
  pub every_byte : (pairs : Pairs) (rest : List ℕ) → Matching g S pairs
      → Every (length pairs + length pairs) (λ x. get_or (bytes pairs ++ rest) x 0 ∉ unmatched S pairs)
  every_byte [] rest empty x l = absurd (omega arith)
  every_byte (e ∷ earlier) rest (another f M) x l =
      rw (newest e earlier rest)
      (go (ℕ_discrete x (length earlier + length earlier)) (ℕ_discrete x (length earlier + length earlier + 1))
      (every_byte earlier (e.smaller ∷ e.larger ∷ rest) M x))
    where
      xs : List ℕ
      xs = bytes earlier ++ e.smaller ∷ e.larger ∷ rest

      w : Without (unmatched S earlier) e.smaller e.larger (unmatched S (e ∷ earlier))
      w = appendable_without g S e earlier f

      go : Dec (x ≡ length earlier + length earlier) → Dec (x ≡ length earlier + length earlier + 1)
          → (x < length earlier + length earlier → get_or xs x 0 ∉ unmatched S earlier) → get_or xs x 0 ∉ unmatched S (e ∷ earlier)
      go (yes h) _ r = rw (h, at_smaller earlier e.smaller e.larger rest) w.a_out
      go (no _) (yes h) r = rw (h, at_larger earlier e.smaller e.larger rest) w.b_out
      go (no d) (no c) r = smaller w (get_or xs x 0) (r (omega arith))

  -- all bytes of the pairs are different
  pub all_different : (pairs : Pairs) (rest : List ℕ) → Matching g S pairs
      → Every (length pairs + length pairs) (λ y. Every y (λ x. get_or (bytes pairs ++ rest) x 0 ≢ get_or (bytes pairs ++ rest) y 0))
  all_different [] rest empty y l x o = absurd (omega arith)
  all_different (e ∷ earlier) rest (another f M) y l x o =
      rw (newest e earlier rest)
      (go (ℕ_discrete y (length earlier + length earlier)) (ℕ_discrete y (length earlier + length earlier + 1))
      (λ m. all_different earlier (e.smaller ∷ e.larger ∷ rest) M y m x o) (every_byte earlier (e.smaller ∷ e.larger ∷ rest) M x))
    where
      xs : List ℕ
      xs = bytes earlier ++ e.smaller ∷ e.larger ∷ rest

      at : ℕ → ℕ
      at k = get_or xs k 0

      apart : (v : ℕ) → at x ∉ unmatched S earlier → v ∈ unmatched S earlier → at x ≢ v
      apart v out in_set q = clash in_set (ap (unmatched S earlier) (sym q) ∙ out)

      last : Dec (x ≡ length earlier + length earlier) → (x < length earlier + length earlier → at x ∉ unmatched S earlier) → x ≤ length earlier + length earlier
          → at x ≢ e.larger
      last (yes h) r m q =
          omega (arith, f.ordered, sym (at_smaller earlier e.smaller e.larger rest), ap at h, q)
      last (no d) r m q = apart e.larger (r (omega arith)) f.larger_left q

      go : Dec (y ≡ length earlier + length earlier) → Dec (y ≡ length earlier + length earlier + 1)
          → (y < length earlier + length earlier → at x ≢ at y) → (x < length earlier + length earlier → at x ∉ unmatched S earlier) → at x ≢ at y
      go (yes h) _ r b =
          rw (h, at_smaller earlier e.smaller e.larger rest) (apart e.smaller (b (omega arith)) f.smaller_left)
      go (no _) (yes h) r b =
          rw (h, at_larger earlier e.smaller e.larger rest) (last (ℕ_discrete x (length earlier + length earlier)) b (omega arith))
      go (no d) (no c) r b = r (omega arith)

-- the sequence of a matching, whatever stands after it, is well formed
module _ (g : Graph) (S : Subset) where
  half : (pairs : Pairs) → Matching g S pairs → length pairs + length pairs ≤ g.n
  half pairs M = omega (arith, count_left g S pairs M, count_most g.n S)

  pub length_sequence : (pairs : Pairs) → Matching g S pairs → length (sequence g.n pairs) ≡ g.n
  unfolding sequence
  length_sequence pairs M =
      length-append (bytes pairs) (replicate (g.n - (length pairs + length pairs)) unused)
      ∙ omega (arith, length_bytes pairs, length-replicate (g.n - (length pairs + length pairs)) unused, half pairs M)

  pub well_formed_sequence : (pairs : Pairs) (rest : List ℕ) → Matching g S pairs → WellFormed g (length pairs) (sequence g.n pairs ++ rest)
  unfolding sequence
  well_formed_sequence pairs rest M = rw append_assoc (record {
    few = half pairs M;
    ordered = every_pair g S (λ a b. a < b) (λ e earlier f. f.ordered) pairs after M;
    below = every_pair g S (λ a b. b < g.n) (λ e earlier f. f.below) pairs after M;
    adjacent = every_pair g S (λ a b. cell g a b ≡ 1) (λ e earlier f. f.adjacent) pairs after M;
    different = all_different g S pairs after M;
    rest = unused_rest;
  })
    where
      spare : List ℕ
      spare = replicate (g.n - (length pairs + length pairs)) unused

      after : List ℕ
      after = spare ++ rest

      unused_rest : Every g.n (λ x. length pairs + length pairs ≤ x → get_or (bytes pairs ++ after) x 0 ≡ unused)
      unused_rest x l m =
          let k = x - (length pairs + length pairs) in
          let e : x ≡ length (bytes pairs) + k = omega (arith, length_bytes pairs) in
          let o : k < g.n - (length pairs + length pairs) = omega arith in
          let o' : k < length spare = omega (arith, length-replicate (g.n - (length pairs + length pairs)) unused) in
          ap (λ z. get_or (bytes pairs ++ after) z 0) e
          ∙ get_or-append-add (bytes pairs) after k 0
          ∙ get_or-append spare rest 0 k o'
          ∙ get_or-replicate (g.n - (length pairs + length pairs)) k unused 0 o

-- a vertex that is unmatched is in play
pub unmatched_within : (S : Subset) (pairs : Pairs) (v : ℕ) → v ∈ unmatched S pairs → v ∈ S
unfolding unmatched
unmatched_within S [] v m = m
unmatched_within S (e ∷ earlier) v m = unmatched_within S earlier v (still (unmatched S earlier) e.smaller (still (remove (unmatched S earlier) e.smaller) e.larger m))
  where
    still : (L : Subset) (a : ℕ) → v ∈ remove L a → v ∈ L
    still L a m = go (ℕ_discrete v a)
      where
        go : Dec (v ≡ a) → v ∈ L
        go (yes e) = clash m (ap (remove L a) e ∙ remove_same L a)
        go (no d) = sym (remove_other L a v d) ∙ m

-- the vertices of the pairs are in play
abbrev pub Inside : Subset → ℕ → List ℕ → Type 0
Inside S made s = Every (made + made) (λ x. get_or s x 0 ∈ S)

-- so it is in the sequence of a matching, whatever stands after it
pub inside_sequence : (g : Graph) (S : Subset) (pairs : Pairs) (rest : List ℕ) → Matching g S pairs → Inside S (length pairs) (sequence g.n pairs ++ rest)
unfolding sequence
inside_sequence g S pairs rest M x l = rw append_assoc (go (ℕ_discrete x (x / 2 + x / 2)))
  where
    spare : List ℕ
    spare = replicate (g.n - (length pairs + length pairs)) unused ++ rest

    xs : List ℕ
    xs = bytes pairs ++ spare

    two : (get_or xs (x / 2 + x / 2) 0 ∈ S) × (get_or xs (x / 2 + x / 2 + 1) 0 ∈ S)
    two =
        every_pair g S (λ a b. (a ∈ S) × (b ∈ S))
        (λ e earlier f. (unmatched_within S earlier e.smaller f.smaller_left, unmatched_within S earlier e.larger f.larger_left))
        pairs spare M (x / 2) (omega arith)

    go : Dec (x ≡ x / 2 + x / 2) → get_or xs x 0 ∈ S
    go (yes e) = ap (λ y. S (get_or xs y 0)) e ∙ two.0
    go (no d) = let e : x ≡ x / 2 + x / 2 + 1 = omega arith in ap (λ y. S (get_or xs y 0)) e ∙ two.1

-- a well-formed sequence is that of the pairs read off it
pub length_pairs_on : (s : List ℕ) (k : ℕ) → length (pairs_on s k) ≡ k
unfolding pairs_on
length_pairs_on s zero = refl
length_pairs_on s (suc k) = ap suc (length_pairs_on s k)

bytes_on : (s : List ℕ) (k : ℕ) → k + k ≤ length s → bytes (pairs_on s k) ≡ take (k + k) s
unfolding pairs_on bytes
bytes_on s zero l = refl
bytes_on s (suc k) l =
    let e : suc k + suc k ≡ suc (suc (k + k)) = omega arith in
    let f : k + k + 1 ≡ suc (k + k) = omega arith in
    rw (e, f, take-suc s (suc (k + k)) 0 (omega arith), take-suc s (k + k) 0 (omega arith), bytes_on s k (omega arith))
    (sym (append_assoc (take (k + k) s) (get_or s (k + k) 0 ∷ []) (get_or s (suc (k + k)) 0 ∷ [])))

pub sequence_on : (g : Graph) (made : ℕ) (s : List ℕ) → g.n ≤ length s → WellFormed g made s → sequence g.n (pairs_on s made) ≡ take g.n s
unfolding sequence
sequence_on g made s l W =
    rw (length_pairs_on s made, bytes_on s made (omega (arith, W.few)))
    (ext_get_or 0 (take (made + made) s ++ replicate (g.n - (made + made)) unused) (take g.n s)
    (length-append (take (made + made) s) (replicate (g.n - (made + made)) unused)
    ∙ omega (arith, front, length-replicate (g.n - (made + made)) unused, length-take-le g.n s l, W.few))
    (λ x h. at x (omega (arith, length-append (take (made + made) s) (replicate (g.n - (made + made)) unused), front, length-replicate (g.n - (made + made)) unused, W.few)) (dec_lt x (made + made))))
  where
    front : length (take (made + made) s) ≡ made + made
    front = length-take-le (made + made) s (omega (arith, W.few))

    at : (x : ℕ) → x < g.n → Dec (x < made + made)
        → get_or (take (made + made) s ++ replicate (g.n - (made + made)) unused) x 0 ≡ get_or (take g.n s) x 0
    at x h (yes k) =
        get_or-append (take (made + made) s) _ 0 x (omega (arith, front))
        ∙ get_or-take (made + made) s x 0 k
        ∙ sym (get_or-take g.n s x 0 h)
    at x h (no k) =
        let d = x - (made + made) in
        let e : x ≡ length (take (made + made) s) + d = omega (arith, front) in
        ap (λ y. get_or (take (made + made) s ++ replicate (g.n - (made + made)) unused) y 0) e
        ∙ get_or-append-add (take (made + made) s) _ d 0
        ∙ get_or-replicate (g.n - (made + made)) d unused 0 (omega arith)
        ∙ sym (get_or-take g.n s x 0 h ∙ W.rest x h (omega arith))

-- a vertex in play that is not among the first bytes is unmatched
pub left_on : (S : Subset) (s : List ℕ) (v k : ℕ) → v ∈ S → Every (k + k) (λ x. get_or s x 0 ≢ v) → v ∈ unmatched S (pairs_on s k)
unfolding pairs_on unmatched
left_on S s v zero m d = m
left_on S s v (suc k) m d =
    remove_other (remove (unmatched S (pairs_on s k)) (get_or s (k + k) 0)) (get_or s (k + k + 1) 0) v (λ e. d (k + k + 1) (omega arith) (sym e))
    ∙ remove_other (unmatched S (pairs_on s k)) (get_or s (k + k) 0) v (λ e. d (k + k) (omega arith) (sym e))
    ∙ left_on S s v k m (λ x l. d x (omega arith))

-- and none of the first bytes is unmatched
pub used_on : (S : Subset) (s : List ℕ) (k x : ℕ) → x < k + k → get_or s x 0 ∉ unmatched S (pairs_on s k)
unfolding pairs_on unmatched
used_on S s zero x l = absurd (omega arith)
used_on S s (suc k) x l = go (ℕ_discrete (get_or s x 0) (get_or s (k + k + 1) 0)) (ℕ_discrete (get_or s x 0) (get_or s (k + k) 0)) (λ h. used_on S s k x h)
  where
    U : Subset
    U = unmatched S (pairs_on s k)

    go : Dec (get_or s x 0 ≡ get_or s (k + k + 1) 0) → Dec (get_or s x 0 ≡ get_or s (k + k) 0) → (x < k + k → get_or s x 0 ∉ U)
        → get_or s x 0 ∉ remove (remove U (get_or s (k + k) 0)) (get_or s (k + k + 1) 0)
    go (yes e) _ r = rw e (remove_same (remove U (get_or s (k + k) 0)) (get_or s (k + k + 1) 0))
    go (no d) (yes e) r =
        remove_other (remove U (get_or s (k + k) 0)) (get_or s (k + k + 1) 0) (get_or s x 0) d ∙ rw e (remove_same U (get_or s (k + k) 0))
    go (no d) (no c) r =
        remove_other (remove U (get_or s (k + k) 0)) (get_or s (k + k + 1) 0) (get_or s x 0) d
        ∙ remove_other U (get_or s (k + k) 0) (get_or s x 0) c
        ∙ r (before (ℕ_discrete x (k + k)) (ℕ_discrete x (k + k + 1)))
      where
        before : Dec (x ≡ k + k) → Dec (x ≡ k + k + 1) → x < k + k
        before (yes q) _ = absurd (c (ap (λ y. get_or s y 0) q))
        before (no _) (yes q) = absurd (d (ap (λ y. get_or s y 0) q))
        before (no f) (no g) = omega arith

module _ (g : Graph) (S : Subset) (made : ℕ) (s : List ℕ) (W : WellFormed g made s) (I : Inside S made s) where
  matching_up_to : (k : ℕ) → k ≤ made → Matching g S (pairs_on s k)
  unfolding pairs_on
  matching_up_to zero l = empty
  matching_up_to (suc k) l =
      another
      (record {
        ordered = W.ordered k (omega arith);
        below = W.below k (omega arith);
        smaller_left = left_on S s _ k (I (k + k) (omega arith)) (λ x h. W.different (k + k) (omega arith) x h);
        larger_left = left_on S s _ k (I (k + k + 1) (omega arith)) (λ x h. W.different (k + k + 1) (omega arith) x (omega arith));
        adjacent = W.adjacent k (omega arith);
      })
      (matching_up_to k (omega arith))

  pub matching_on : Matching g S (pairs_on s made)
  matching_on = matching_up_to made (omega arith)

-- a vertex in play that is matched stands among the bytes
place_of : (S : Subset) (pairs : Pairs) (rest : List ℕ) (v : ℕ) → v ∈ S → v ∉ unmatched S pairs
    → (x : ℕ) × (x < length pairs + length pairs) × (get_or (bytes pairs ++ rest) x 0 ≡ v)
unfolding unmatched
place_of S [] rest v m o = clash m o
place_of S (e ∷ earlier) rest v m o =
    rw (newest e earlier rest) (go (ℕ_discrete v e.smaller) (ℕ_discrete v e.larger) (place_of S earlier (e.smaller ∷ e.larger ∷ rest) v m))
  where
    xs : List ℕ
    xs = bytes earlier ++ e.smaller ∷ e.larger ∷ rest

    Placed : ℕ → Type 0
    Placed k = (x : ℕ) × (x < k + k) × (get_or xs x 0 ≡ v)

    go : Dec (v ≡ e.smaller) → Dec (v ≡ e.larger) → (v ∉ unmatched S earlier → Placed (length earlier)) → Placed (suc (length earlier))
    go (yes q) _ r = (length earlier + length earlier, omega arith, at_smaller earlier e.smaller e.larger rest ∙ sym q)
    go (no _) (yes q) r = (length earlier + length earlier + 1, omega arith, at_larger earlier e.smaller e.larger rest ∙ sym q)
    go (no c) (no d) r =
        let h = r (sym (remove_other (unmatched S earlier) e.smaller v c) ∙ sym (remove_other (remove (unmatched S earlier) e.smaller) e.larger v d) ∙ o) in
        (h.0, omega (arith, h.1), h.2)

pub place_in : (n : ℕ) (S : Subset) (pairs : Pairs) (rest : List ℕ) (v : ℕ) → v ∈ S → v ∉ unmatched S pairs
    → (x : ℕ) × (x < length pairs + length pairs) × (get_or (sequence n pairs ++ rest) x 0 ≡ v)
unfolding sequence
place_in n S pairs rest v m o = rw append_assoc (place_of S pairs (replicate (n - (length pairs + length pairs)) unused ++ rest) v m o)
