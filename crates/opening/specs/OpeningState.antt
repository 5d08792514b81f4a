-- What opening leaves, in the terms of the definitions. Assumes nothing.
use Rattle.std.specs.Prelude.{◌≡◌, List, ◌++◌, ℕ, ◌*◌, ◌≤◌, length, take, drop, replicate, Option, None, Some}
use Rattle.std.proofs.Common.{sym, ◌∙◌, take-append-drop}
use Rattle.std.proofs.lemmas.List.{length-replicate}
use Rattle.lists.specs.Onto.{onto, onto_again}
use Rattle.residue.specs.Modulus.{modulus}
use Rattle.matching.specs.Decision.{accepted}
use Rattle.matching.specs.Graph.{Graph, over}
use Rattle.matching.specs.Pairs.{unused, everything}
use Rattle.matching.specs.Session.{InverseTable}
use Rattle.matching.specs.Opening.{Singular, ruling, Opens, opens, finds_singular}
use Rattle.matching.specs.Causes.{opening_ruling}
use Rattle.laws.specs.Sound.{opening_accepted}
use Rattle.graph.specs.Complete.{Complete}
use Rattle.solve.specs.Solved.{Solved, solved_whole}
use Rattle.opening.specs.Meaning.{found, buffers}

-- what opening works on; it is ready if the graph is accepted
pub record OpeningReady (n : ℕ) (inverse sequence witness : List ℕ) : Type 0 where
  pub inverse_fits : n * n ≤ length inverse
  pub sequence_fits : n ≤ length sequence
  pub witness_fits : n ≤ length witness

pub ready : (n : ℕ) (adjacency weights inverse sequence witness : List ℕ) (work : ℕ)
    → opening_ruling modulus (over n adjacency weights) (length inverse) (length sequence) (length witness) work ≡ accepted
    → Complete n adjacency weights × OpeningReady n inverse sequence witness × (n * n ≤ work)
ready n adjacency weights inverse sequence witness work e =
    let k = (opening_accepted modulus (over n adjacency weights) (length inverse) (length sequence) (length witness) work).0 e in (
      record { size = k.1.size; cells = k.0.graph.cells; weights_enough = k.0.graph.weights },
      record {
        inverse_fits = k.0.inverse_fits;
        sequence_fits = k.0.sequence_fits;
        witness_fits = k.0.witness_fits;
      },
      k.0.work_fits,
    )

-- what opening leaves of an accepted graph, except for the work buffer: the inverse is written, and the witness is as it was; or the witness
-- is written, and words over the inverse, which the caller clears
pub data Begun (g : Graph) (inverse sequence witness : List ℕ) : Option ℕ → (inverse' sequence' witness' : List ℕ) → Type 0 where
  leaves_inverse : (new : List ℕ) → length new ≡ g.n * g.n → InverseTable modulus g everything new
      → Begun g inverse sequence witness None (onto new inverse) (onto (replicate g.n unused) sequence) witness
  leaves_witness : (f : ℕ) (words new : List ℕ) → length words ≡ g.n * g.n → length new ≡ g.n → Singular modulus g everything f new
      → Begun g inverse sequence witness (Some f) (onto words inverse) (onto (replicate g.n unused) sequence) (onto new witness)

-- a buffer whose first k words are filled
filled : (k v : ℕ) (l : List ℕ) → replicate k v ++ drop k l ≡ onto (replicate k v) l
filled k v l = rw (length-replicate {A = ℕ} k v)

-- begun from what is solved in the first parts of the buffers
pub begun : {n : ℕ} {adjacency weights inverse sequence witness sequence' : List ℕ} (set' inverse' witness' : List ℕ) → length inverse' ≡ n * n
    → sequence' ≡ replicate n unused ++ drop n sequence → length witness' ≡ n → (o : Option ℕ)
    → Solved (over n adjacency weights) everything o set' (take n witness) inverse' witness'
    → Begun (over n adjacency weights) inverse sequence witness o (inverse' ++ drop (n * n) inverse) sequence' (witness' ++ drop n witness)
begun {n} {adjacency} {weights} {inverse} {sequence} {witness} set' inverse' witness' li es lw None K =
    let B : Begun (over n adjacency weights) inverse sequence witness None _ _ _ = leaves_inverse inverse' li (solved_whole K) in
    rw (es ∙ filled n unused sequence, K.ends.1, take-append-drop n witness) (rw li at B)
begun {n} {adjacency} {weights} {inverse} {sequence} {witness} set' inverse' witness' li es lw (Some f) K =
    let B : Begun (over n adjacency weights) inverse sequence witness (Some f) _ _ _ = leaves_witness f inverse' witness' li lw K.ends in
    rw (es ∙ filled n unused sequence) (rw (li, lw) at B)

-- the witness becomes 0 if there is an inverse, else the inverse does
abbrev pub Cleared : ℕ → Option ℕ → (inverse witness inverse' witness' : List ℕ) → Type 0
Cleared n None inverse witness inverse' witness' = (inverse' ≡ inverse) × (witness' ≡ replicate n 0 ++ drop n witness)
Cleared n (Some f) inverse witness inverse' witness' = (inverse' ≡ replicate (n * n) 0 ++ drop (n * n) inverse) × (witness' ≡ witness)

-- with this, and the work buffer's first words set to 0, opening is complete
pub begun_whole : {g : Graph} {o : Option ℕ} {inverse sequence witness work inverse' sequence' witness' inverse'' witness'' work'' : List ℕ}
    → Begun g inverse sequence witness o inverse' sequence' witness' → Cleared g.n o inverse' witness' inverse'' witness''
    → work'' ≡ replicate (g.n * g.n) 0 ++ drop (g.n * g.n) work → ruling modulus g (buffers inverse sequence witness work) ≡ accepted
    → Opens modulus g everything (buffers inverse sequence witness work) (found g.n o) (buffers inverse'' sequence' witness'' work'')
begun_whole {g} {witness = witness} {work = work} (leaves_inverse new l I) (ei, ew) ek ok =
    rw (ei, ew ∙ filled g.n 0 witness, ek ∙ filled (g.n * g.n) 0 work) (opens new ok l I)
begun_whole {g} {inverse = inverse} {work = work} (leaves_witness f kept new lk l s) (ei, ew) ek ok =
    let z : List ℕ = replicate (g.n * g.n) 0 in
    rw (ei ∙ filled (g.n * g.n) 0 (onto kept inverse) ∙ onto_again kept z inverse (length-replicate {A = ℕ} _ 0 ∙ sym lk), ew, ek ∙ filled (g.n * g.n) 0 work)
    (finds_singular f new ok l s)
