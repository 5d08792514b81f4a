-- What a reader has filled through the host: what its number gives back, and that opening through the host does not refuse it. Assumes
-- nothing.
use Rattle.std.specs.Prelude.{◌≡◌, refl, List, [], ◌∷◌, ℕ, ◌%◌, ◌^◌, ◌<◌, length, drop}
use Rattle.std.proofs.Common.{sym, ap, ap₂, ◌∙◌, arith}
use Rattle.std.proofs.Math.ListN.{get_or-append}
use Rattle.lists.specs.Onto.{onto}
use Rattle.matching.specs.Decision.{index, place_number, Refusal, accepted}
use Rattle.matching.specs.Edition.{Edition}
use Rattle.matching.specs.Graph.{over}
use Rattle.matching.specs.Pairs.{Pair}
use Rattle.matching.specs.Causes.{lent_graph, lent_inverse, lent_sequence, lent_witness, lent_work, too_short, LongEnough, opening_ruling}
use Rattle.matching.specs.Opening.{Opening, opened, singular, not_opened, Buffers, players, Opens, refuses_opening}
use Rattle.matching.specs.Filling.{Read, graph_read, not_read, Filled, fills}
use Rattle.matching.specs.Host.{words, Bytes, bytes_of, cause_in, size_in, unpacked, read_number, weights_stored, opening_number, HostOpens}
use Rattle.laws.specs.Judge.{judge_accepted}
use Rattle.laws.specs.Sound.{short_absent, graph_fits}
use Rattle.laws.specs.Filling.{Fit, in_range, filled_accepted, Within, AnswerBounds, filled_answer}
use Rattle.laws.specs.Numbers.{made_field, opens_small, opening_low_byte}
use Rattle.laws.specs.Words.{read_words}

-- the cause of an answer, 0 if there is none
abbrev pub read_cause : Read → ℕ
read_cause (graph_read n m) = 0
read_cause (not_read why) = why.cause

-- the low byte of the number
pub read_low_byte : (most : ℕ) (o : Read) → AnswerBounds o most → read_number o % 2 ^ 8 ≡ read_cause o
read_low_byte most (graph_read n m) h = omega arith
read_low_byte most (not_read why) h = omega (arith, h.cause_below)

-- the number of a refusal is not that of a call that was carried out
pub refusal_numbered : {most k : ℕ} (why : Refusal) → Within most why → k ≡ read_number (not_read why) → cause_in k ≡ 0 → ⊥
refusal_numbered {most} why h e none = omega (arith, none, ap cause_in e, read_low_byte most (not_read why) h, h.cause_from)

-- two different answers have different numbers, if places fit their bits
pub read_numbers : (most : ℕ) (o o' : Read) → most < 2 ^ 47 → AnswerBounds o most → AnswerBounds o' most → read_number o ≡ read_number o' → o ≡ o'
read_numbers most (graph_read n m) (graph_read n' m') l h h' e =
    let q : n ≡ n' = omega (arith, h.0, h.1, h'.0, h'.1) in ap₂ graph_read q (omega (arith, q))
read_numbers most (graph_read n m) (not_read why) l h h' e = absurd (refusal_numbered why h' e (read_low_byte most (graph_read n m) h))
read_numbers most (not_read why) (graph_read n m) l h h' e = absurd (refusal_numbered why h (sym e) (read_low_byte most (graph_read n m) h'))
read_numbers most (not_read why) (not_read why') l h h' e =
    let c : why.cause ≡ why'.cause = omega (arith, h.cause_below, h'.cause_below) in
    let p : place_number why.place ≡ place_number why'.place = omega (arith, h.cause_below, h'.cause_below) in
    ap not_read (ap₂ (λ cause place. record { cause = cause; place = place }) c (h.is_index ∙ ap index p ∙ sym h'.is_index))

-- the other buffers that opening is lent are, as bytes, long enough for n vertices
abbrev pub LongBytes : Edition → ℕ → Buffers → Type 0
LongBytes E n b =
    LongEnough
    (lent_inverse n (length (words E.width b.inverse))
    ∷ lent_sequence n (length b.sequence)
    ∷ lent_witness n (length (words E.width b.witness))
    ∷ lent_work n (length (words E.width b.work))
    ∷ [])

-- a graph has been read into an adjacency table and weights, which are bytes: the number gives its size
pub record ReadIn (E : Edition) (k : ℕ) (adjacency weights a w : List ℕ) : Type 0 where
  drawn : List ℕ
  edges : List Pair
  count : ℕ
  fit : Fit E (size_in k) drawn edges
  filled : Filled (size_in k) drawn edges adjacency (words E.width weights) (graph_read (size_in k) count) a (words E.width w)

-- the weights that were stored are read back
stored_back : {E : Edition} {n k m : ℕ} {adjacency drawn : List ℕ} {edges : List Pair} (weights : List ℕ) {a left : List ℕ} → Bytes weights → Fit E n drawn edges
    → Filled n drawn edges adjacency (words E.width weights) (graph_read k m) a left
    → words E.width (onto (bytes_of E.width left) weights) ≡ left
stored_back {E} {n = n} {adjacency = adjacency} {drawn = drawn} weights B F (fills e) =
    let l = F.weights_fit.counted in
    let g = over n adjacency (words E.width weights) in
    let long = (graph_fits g).0 ((short_absent (lent_graph g)).0 ((judge_accepted (too_short (lent_graph g) ∷ [])).0 e).0) in
    read_words E.width drawn weights B (omega (arith, long.weights))
    (λ x h.
    let small = (in_range F adjacency (words E.width weights) x (omega arith)).1 in
    omega (arith, small, E.fits, get_or-append drawn (drop (length drawn) (words E.width weights)) 0 x h))

filled_size : {n size m : ℕ} {drawn : List ℕ} {edges : List Pair} {adjacency weights a w : List ℕ} → Filled n drawn edges adjacency weights (graph_read size m) a w → n ≡ size
filled_size (fills e) = refl

pub filled_in : {E : Edition} {adjacency weights a w left drawn : List ℕ} {edges : List Pair} {n k size m : ℕ} → Bytes weights → Fit E n drawn edges
    → Filled n drawn edges adjacency (words E.width weights) (graph_read size m) a left → k ≡ read_number (graph_read size m)
    → w ≡ weights_stored E (graph_read size m) left weights → ReadIn E k adjacency weights a w
filled_in {E} {adjacency} {weights} {a} {w} {left = left} {drawn = drawn} {edges = edges} {n = n} {k = k} {size = size} {m = m} B F X e s =
    let h = filled_answer F X in
    let q : size_in k ≡ size = ap size_in e ∙ made_field 0 6 m size (omega arith) (omega arith) (omega (arith, h.1)) (omega (arith, h.0)) in
    let same : n ≡ size_in k = filled_size X ∙ sym q in
    let v : words E.width w ≡ left = ap (words E.width) s ∙ stored_back weights B F X in
    let Y : Filled n drawn edges adjacency (words E.width weights) (graph_read (size_in k) m) a (words E.width w) = rw (q, v) X in
    record { drawn = drawn; edges = edges; count = m; fit = rw same at F; filled = rw same at Y }

-- opening through the host finds an inverse or a witness: no cause applies
pub read_opens : {E : Edition} {k : ℕ} {adjacency weights a w : List ℕ} → ReadIn E k adjacency weights a w
    → {b after : Buffers} {answer : ℕ} → LongBytes E (size_in k) b → HostOpens E (size_in k) a w b answer after → cause_in answer ≡ 0
read_opens {E} {k} {a = a} {w = w} R {b = b} long O = ap cause_in O.numbered ∙ go O.opening O.outcome
  where
    ok : opening_ruling E.modulus (over (size_in k) a (words E.width w)) (length (words E.width b.inverse)) (length b.sequence) (length (words E.width b.witness)) (length (words E.width b.work)) ≡ accepted
    ok = filled_accepted _ _ _ _ R.fit R.filled long

    go : (o : Opening) {left : Buffers} → Opens E.modulus (over (size_in k) a (words E.width w)) (players (size_in k) (unpacked E b)) (unpacked E b) o left → cause_in (opening_number o) ≡ 0
    go (opened s) X = opening_low_byte (size_in k) (opened s) (opens_small X)
    go (singular f) X = opening_low_byte (size_in k) (singular f) (opens_small X)
    go (not_opened r) (refuses_opening _ e) = let a = ok in absurd (let z : ◌≡◌ {A = ℕ} 0 1 = cc in omega arith)
