-- A text in the DIMACS edge format is read in exactly one way, alone and through the host, and opening does not refuse the graph that is
-- read. Assumes nothing.
use Rattle.std.specs.Prelude.{◌≡◌, refl, List, [], ◌∷◌, ℕ, ◌+◌, ◌-◌, ◌^◌, ◌≤◌, ◌<◌, length}
use Rattle.std.proofs.Common.{sym, ap, ap₂, ◌∙◌, arith}
use Rattle.std.proofs.Math.Decide.{dec_lt}
use Rattle.lists.specs.Choose.{choose_yes, choose_no}
use Rattle.draws.specs.Draws.{draws}
use Rattle.matching.specs.Decision.{place_number, Refusal, because, accepted}
use Rattle.matching.specs.Edition.{Edition}
use Rattle.matching.specs.Graph.{over, largest, pair_count}
use Rattle.matching.specs.Pairs.{Pair}
use Rattle.matching.specs.Causes.{opening_ruling, lent_inverse, lent_sequence, lent_witness, lent_work, LongEnough}
use Rattle.matching.specs.Opening.{Buffers}
use Rattle.matching.specs.Filling.{Read, graph_read, not_read, lacks_room}
use Rattle.matching.specs.Dimacs.{Line, Begins, begins_comment, begins_problem, begins_edge, Progress, before, past, Takes, takes_comment, takes_problem, takes_edge, takes_repeated, Rejects, second_problem, edge_too_early, too_large_size, not_two, Reading, text, unread, Reads, no_problem, not_announced, whole, no_form, rejected, goes_on, ReadsText, FillsText, refuses_lines, reads_lines}
use Rattle.matching.specs.DimacsComputed.{field_unique, space_no_digit, line_feed_no_digit, skips_unique, line_shorter, read_text}
use Rattle.matching.specs.Host.{words, Bytes, cause_in, size_in, line_in, read_number, weights_stored, line_place, capped, HostReadsText, HostOpens}
use Rattle.laws.specs.Edges.{EdgesFit, Different, fit_more}
use Rattle.laws.specs.Filling.{Fit, draws_fit, filled_accepted, filled_some, filled_unique, Within, within, AnswerBounds, more_bounds, room_refused, filled_answer}
use Rattle.laws.specs.HostFilling.{ReadIn, LongBytes, read_cause, read_numbers, refusal_numbered, filled_in, read_opens}

no_bytes : {A : Type 0} {l : Line} {rest : List ℕ} → Begins l [] rest → A
no_bytes = elim [ ]

-- bytes begin with one line at most
pub begins_unique : {bytes rest rest' : List ℕ} {l l' : Line} → Begins l bytes rest → Begins l' bytes rest' → (l ≡ l') × (rest ≡ rest')
begins_unique (begins_comment s) (begins_comment t) = (refl, skips_unique s t)
begins_unique (begins_problem f g) (begins_problem f' g') =
    let u = field_unique space_no_digit f f' in
    let w = field_unique line_feed_no_digit g (rw (← u.1) at g') in
    (rw (u.0, w.0) refl, w.1)
begins_unique (begins_edge f g) (begins_edge f' g') =
    let u = field_unique space_no_digit f f' in
    let w = field_unique line_feed_no_digit g (rw (← u.1) at g') in
    (rw (u.0, w.0) refl, w.1)

takes_unique : {q a : Progress} {l : Line} → Takes q l a → {b : Progress} → Takes q l b → a ≡ b
takes_unique takes_comment takes_comment = refl
takes_unique (takes_problem _) (takes_problem _) = refl
takes_unique (takes_edge _ _) (takes_edge _ _) = refl
takes_unique (takes_edge _ z) (takes_repeated _ o) = absurd (omega arith)
takes_unique (takes_repeated _ o) (takes_edge _ z) = absurd (omega arith)
takes_unique (takes_repeated _ _) (takes_repeated _ _) = refl

rejects_unique : {q : Progress} {l : Line} {a b : ℕ} → Rejects q l a → Rejects q l b → a ≡ b
rejects_unique second_problem second_problem = refl
rejects_unique edge_too_early edge_too_early = refl
rejects_unique (too_large_size _) (too_large_size _) = refl
rejects_unique (not_two _) (not_two _) = refl

takes_or_rejects : {q a : Progress} {l : Line} {cause : ℕ} → Takes q l a → Rejects q l cause → ⊥
takes_or_rejects takes_comment j = elim j [ ]
takes_or_rejects (takes_problem l) (too_large_size h) = omega arith
takes_or_rejects (takes_edge h _) (not_two d) = d h
takes_or_rejects (takes_repeated h _) (not_two d) = d h

pub reads_unique : {q : Progress} {line : ℕ} {bytes : List ℕ} {a b : Reading} → Reads q line bytes a → Reads q line bytes b → a ≡ b
reads_unique no_problem no_problem = refl
reads_unique no_problem (rejected b _) = no_bytes b
reads_unique no_problem (goes_on b _ _) = no_bytes b
reads_unique (not_announced _) (not_announced _) = refl
reads_unique (not_announced d) (whole e) = absurd (d e)
reads_unique (not_announced _) (rejected b _) = no_bytes b
reads_unique (not_announced _) (goes_on b _ _) = no_bytes b
reads_unique (whole e) (not_announced d) = absurd (d e)
reads_unique (whole _) (whole _) = refl
reads_unique (whole _) (rejected b _) = no_bytes b
reads_unique (whole _) (goes_on b _ _) = no_bytes b
reads_unique (no_form _) (no_form _) = refl
reads_unique (no_form f) (rejected {rest = rest} {l = l} b _) = absurd (f l rest b)
reads_unique (no_form f) (goes_on {rest = rest} {l = l} b _ _) = absurd (f l rest b)
reads_unique (rejected b _) no_problem = no_bytes b
reads_unique (rejected b _) (not_announced _) = no_bytes b
reads_unique (rejected b _) (whole _) = no_bytes b
reads_unique (rejected {rest = rest} {l = l} b _) (no_form f) = absurd (f l rest b)
reads_unique {line = line} (rejected {l = l} b j) (rejected {l = l'} b' j') =
    let e : l' ≡ l = (begins_unique b' b).0 in ap (λ k. unread (because k line)) (rejects_unique j (rw e at j'))
reads_unique (rejected {l = l} b j) (goes_on {l = l'} b' t _) =
    let e : l' ≡ l = (begins_unique b' b).0 in absurd (takes_or_rejects (rw e at t) j)
reads_unique (goes_on b _ _) no_problem = no_bytes b
reads_unique (goes_on b _ _) (not_announced _) = no_bytes b
reads_unique (goes_on b _ _) (whole _) = no_bytes b
reads_unique (goes_on {rest = rest} {l = l} b _ _) (no_form f) = absurd (f l rest b)
reads_unique (goes_on {l = l} b t _) (rejected {l = l'} b' j) =
    let e : l' ≡ l = (begins_unique b' b).0 in absurd (takes_or_rejects t (rw e at j))
reads_unique (goes_on {next = n} {rest = rest} {l = l} b t R) (goes_on {next = n'} {rest = rest'} {l = l'} b' t' R') =
    let u = begins_unique b' b in
    let e : n' ≡ n = takes_unique (rw u.0 at t') t in
    reads_unique R (rw (e, u.1) at R')

-- what holds of the text so far
record Found (n : ℕ) (edges : List Pair) : Type 0 where
  small : n ≤ largest
  edges_fit : EdgesFit n edges
  different : Different edges

abbrev So : Progress → Type 0
So before = Unit {0}
So (past n m k edges) = Found n edges

takes_so : {q next : Progress} {l : Line} → Takes q l next → So q → So next
takes_so takes_comment F = F
takes_so (takes_problem l) _ = record { small = l; edges_fit = tt; different = tt }
takes_so (takes_edge {n = n} {u = u} {v = v} {edges = edges} h z) F =
    record { small = F.small; edges_fit = fit_more n (u - 1) (v - 1) edges h.2 F.edges_fit; different = (z, F.different) }
takes_so (takes_repeated _ _) F = F

never : {A : Type 0} → ◌≡◌ {A = ℕ} 0 1 → A
never e = absurd (omega arith)

reads_so : {q : Progress} {line : ℕ} {bytes : List ℕ} {r : Reading} {n : ℕ} {edges : List Pair} → Reads q line bytes r → r ≡ text n edges → So q → Found n edges
reads_so no_problem e F = never (cc)
reads_so (not_announced _) e F = never (cc)
reads_so {n = n} {edges = edges} (whole {n = m} {edges = es} _) e F =
    let a : m ≡ n = cc in
    let c : es ≡ edges = cc in
    rw (a, c) at F
reads_so (no_form _) e F = never (cc)
reads_so (rejected _ _) e F = never (cc)
reads_so (goes_on _ t R) e F = reads_so R e (takes_so t F)

-- with the draws of a seed it is a graph in order
pub text_fit : (E : Edition) (seed : ℕ) {bytes : List ℕ} {n : ℕ} {edges : List Pair} → ReadsText bytes (text n edges)
    → Fit E n (draws E.draw seed (pair_count n)) edges
text_fit E seed {n = n} R =
    let h = reads_so R refl tt in
    record { small = h.small; weights_fit = draws_fit E n seed; edges_fit = h.edges_fit; different = h.different }

-- it is filled in exactly one way
texts : {n n' : ℕ} {edges edges' : List Pair} → text n edges ≡ text n' edges' → (n ≡ n') × (edges ≡ edges')
texts e = (cc, cc)

pub text_some : (E : Edition) (seed : ℕ) (bytes adjacency weights : List ℕ) → (o : Read) × (a : List ℕ) × (w : List ℕ) × FillsText E seed bytes adjacency weights o a w
text_some E seed bytes adjacency weights = go (read_text bytes).reading (read_text bytes).reads
  where
    go : (r : Reading) → ReadsText bytes r → (o : Read) × (a : List ℕ) × (w : List ℕ) × FillsText E seed bytes adjacency weights o a w
    go (unread why) R = (not_read why, adjacency, weights, refuses_lines R)
    go (text n edges) R = let h = filled_some n (draws E.draw seed (pair_count n)) edges adjacency weights in (_, _, _, reads_lines R h.3)

pub text_unique : {E : Edition} {seed : ℕ} {bytes adjacency weights a a' w w' : List ℕ} {o o' : Read} → FillsText E seed bytes adjacency weights o a w
    → FillsText E seed bytes adjacency weights o' a' w' → (o ≡ o') × (a ≡ a') × (w ≡ w')
text_unique (refuses_lines R) (refuses_lines R') = let q = reads_unique R R' in (cc, refl, refl)
text_unique (refuses_lines R) (reads_lines R' F') = let q = reads_unique R R' in never (cc)
text_unique (reads_lines R F) (refuses_lines R') = let q = reads_unique R R' in never (cc)
text_unique (reads_lines R F) (reads_lines R' F') =
    let q = texts (reads_unique R' R) in filled_unique F (rw (q.0, q.1) at F')

-- and opening, lent other buffers that are long enough, does not refuse it
pub text_accepted : {E : Edition} {seed : ℕ} {bytes adjacency weights a w : List ℕ} {n m : ℕ} (inverse sequence witness work : ℕ)
    → FillsText E seed bytes adjacency weights (graph_read n m) a w
    → LongEnough (lent_inverse n inverse ∷ lent_sequence n sequence ∷ lent_witness n witness ∷ lent_work n work ∷ [])
    → opening_ruling E.modulus (over n a w) inverse sequence witness work ≡ accepted
text_accepted {E} {seed} inverse sequence witness work (reads_lines R F) long = filled_accepted inverse sequence witness work (text_fit E seed R) F long

-- the place of a refusal: no more lines than bytes
given_within : {most : ℕ} (given : Refusal) {why : Refusal} → unread given ≡ unread why → Within most given → Within most why
given_within given {why} e h = let w : given ≡ why = cc in rw w at h

rejects_within : {q : Progress} {l : Line} {k : ℕ} → Rejects q l k → (0 < k) × (k < 2 ^ 8)
rejects_within second_problem = (omega arith, omega arith)
rejects_within edge_too_early = (omega arith, omega arith)
rejects_within (too_large_size _) = (omega arith, omega arith)
rejects_within (not_two _) = (omega arith, omega arith)

reads_within : {q : Progress} {line most : ℕ} {bytes : List ℕ} {r : Reading} {why : Refusal} → Reads q line bytes r → r ≡ unread why → line + length bytes ≤ most → Within most why
reads_within no_problem e h = given_within (because 16 0) e (within 16 0 (omega arith) (omega arith) (omega arith))
reads_within (not_announced _) e h = given_within (because 17 0) e (within 17 0 (omega arith) (omega arith) (omega arith))
reads_within (whole _) e h = never (cc)
reads_within {line = line} (no_form _) e h =
    given_within (because 16 line) e (within 16 line (omega arith) (omega arith) (omega arith))
reads_within {line = line} (rejected {cause = k} b j) e h =
    let c = rejects_within j in given_within (because k line) e (within k line c.0 c.1 (omega arith))
reads_within (goes_on b t R) e h = reads_within R e (omega (arith, line_shorter b))

pub text_answer : {E : Edition} {seed : ℕ} {bytes adjacency weights a w : List ℕ} {given : Read} → FillsText E seed bytes adjacency weights given a w
    → AnswerBounds given (length bytes + 2)
text_answer (refuses_lines R) = reads_within R refl (omega arith)
text_answer {E} {seed} {given = given} (reads_lines R F) = more_bounds given (omega arith) (filled_answer (text_fit E seed R) F)

-- the causes of a text: 15 is not among them
pub data TextCause : ℕ → Type 0 where
  size_too_large : TextCause 1
  buffer_too_short : TextCause 2
  not_two_vertices : TextCause 14
  line_invalid : TextCause 16
  lines_miscounted : TextCause 17

given_cause : (given : Refusal) {why : Refusal} → unread given ≡ unread why → TextCause given.cause → TextCause why.cause
given_cause given {why} e h = let w : given ≡ why = cc in rw w at h

rejects_cause : {q : Progress} {l : Line} {k : ℕ} → Rejects q l k → TextCause k
rejects_cause second_problem = line_invalid
rejects_cause edge_too_early = line_invalid
rejects_cause (too_large_size _) = size_too_large
rejects_cause (not_two _) = not_two_vertices

reads_cause : {q : Progress} {line : ℕ} {bytes : List ℕ} {r : Reading} {why : Refusal} → Reads q line bytes r → r ≡ unread why → TextCause why.cause
reads_cause no_problem e = given_cause (because 16 0) e line_invalid
reads_cause (not_announced _) e = given_cause (because 17 0) e lines_miscounted
reads_cause (whole _) e = never (cc)
reads_cause {line = line} (no_form _) e = given_cause (because 16 line) e line_invalid
reads_cause {line = line} (rejected {cause = k} b j) e = given_cause (because k line) e (rejects_cause j)
reads_cause (goes_on b t R) e = reads_cause R e

pub text_cause : {E : Edition} {seed : ℕ} {bytes adjacency weights a w : List ℕ} {why : Refusal} → FillsText E seed bytes adjacency weights (not_read why) a w
    → TextCause why.cause
text_cause (refuses_lines R) = reads_cause R refl
text_cause {adjacency = adjacency} {weights = weights} (reads_lines {n = n} R (lacks_room e)) =
    rw (room_refused n adjacency weights e).0 buffer_too_short

-- through the host it has exactly one outcome
pub host_text_some : (E : Edition) (seed : ℕ) (bytes adjacency weights : List ℕ) → (k : ℕ) × (a : List ℕ) × (w : List ℕ) × HostReadsText E seed bytes adjacency weights k a w
host_text_some E seed bytes adjacency weights =
    let h = text_some E seed bytes adjacency (words E.width weights) in
    (_, _, _, record { given = h.0; left = h.2; outcome = h.3; numbered = refl; stored = refl })

pub host_text_unique : {E : Edition} {seed : ℕ} {bytes adjacency weights a a' w w' : List ℕ} {k k' : ℕ} → HostReadsText E seed bytes adjacency weights k a w
    → HostReadsText E seed bytes adjacency weights k' a' w' → (k ≡ k') × (a ≡ a') × (w ≡ w')
host_text_unique {E} {weights = weights} H H' =
    let u = text_unique H.outcome H'.outcome in (
      H.numbered ∙ ap (λ o. read_number (capped o)) u.0 ∙ sym H'.numbered,
      u.1,
      H.stored ∙ ap₂ (λ o left. weights_stored E o left weights) u.0 u.2 ∙ sym H'.stored,
    )

-- the low byte is the cause, 0 if there is none, whatever the length of the text
pub host_text_cause : {E : Edition} {seed : ℕ} {bytes adjacency weights a w : List ℕ} {k : ℕ} (H : HostReadsText E seed bytes adjacency weights k a w)
    → cause_in k ≡ read_cause H.given
host_text_cause {E} {seed} {bytes} {adjacency} {weights} {a} {k = k} H = go H.given H.outcome H.numbered
  where
    go : (o : Read) → FillsText E seed bytes adjacency (words E.width weights) o a H.left → k ≡ read_number (capped o) → cause_in k ≡ read_cause o
    go (graph_read n m) F e = ap cause_in e ∙ omega arith
    go (not_read why) F e = let h = text_answer F in ap cause_in e ∙ omega (arith, h.cause_below)

-- the place of a line: itself below 2 ^ 47 - 1, which stands for every later one
pub line_same : (line : ℕ) → line < 2 ^ 47 - 1 → line_place line ≡ line
line_same line l = choose_yes (dec_lt line (2 ^ 47 - 1)) line (2 ^ 47 - 1) l

pub line_last : (line : ℕ) → ¬ (line < 2 ^ 47 - 1) → line_place line ≡ 2 ^ 47 - 1
line_last line l = choose_no (dec_lt line (2 ^ 47 - 1)) line (2 ^ 47 - 1) l

-- so it comes back
pub line_back : {most : ℕ} (r : Refusal) → most < 2 ^ 47 - 1 → Within most r → line_in (read_number (capped (not_read r))) ≡ place_number r.place
line_back r l h = rw (line_same (place_number r.place) (omega (arith, h.place_within))) (omega (arith, h.cause_below, h.place_within))

-- so two different answers to a text of fewer than 2 ^ 47 - 3 bytes have different numbers
capped_same : {most : ℕ} (o : Read) → most < 2 ^ 47 - 1 → AnswerBounds o most → capped o ≡ o
capped_same (graph_read n m) l h = refl
capped_same (not_read r) l h =
    ap (λ line. not_read (because r.cause line)) (line_same (place_number r.place) (omega (arith, h.place_within)))
    ∙ ap (λ place. not_read (record { cause = r.cause; place = place })) (sym h.is_index)

pub text_numbers : (most : ℕ) (o o' : Read) → most < 2 ^ 47 - 1 → AnswerBounds o most → AnswerBounds o' most → read_number (capped o) ≡ read_number (capped o')
    → o ≡ o'
text_numbers most o o' l h h' e =
    let a = capped_same o l h in
    let b = capped_same o' l h' in
    read_numbers most o o' (omega arith) h h' (rw (a, b) at e)

-- opening through the host does not refuse a text that was read through it
module _ {E : Edition} {seed : ℕ} {bytes adjacency weights a w : List ℕ} {k : ℕ} (B : Bytes weights) (H : HostReadsText E seed bytes adjacency weights k a w) (none : cause_in k ≡ 0) where
  refused_lines : {most : ℕ} (why : Refusal) → Within most why → k ≡ read_number (capped (not_read why)) → ⊥
  refused_lines why h e =
      let line = line_place (place_number why.place) in
      refusal_numbered {most = line} (because why.cause line) (within why.cause line h.cause_from h.cause_below (omega arith)) e none

  text_in : ReadIn E k adjacency weights a w
  text_in = go H.given H.outcome H.numbered H.stored
    where
      go : (o : Read) → FillsText E seed bytes adjacency (words E.width weights) o a H.left → k ≡ read_number (capped o) → w ≡ weights_stored E o H.left weights
          → ReadIn E k adjacency weights a w
      go (not_read why) F e s = absurd (refused_lines why (text_answer F) e)
      go (graph_read n m) (reads_lines R F) e s = filled_in B (text_fit E seed R) F e s

  pub host_text_opens : {b after : Buffers} {answer : ℕ} → LongBytes E (size_in k) b → HostOpens E (size_in k) a w b answer after → cause_in answer ≡ 0
  host_text_opens = read_opens text_in
