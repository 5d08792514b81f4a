-- The bytes of a sheet are read in exactly one way, and the graph that is read is in order. Assumes nothing.
use Rattle.std.specs.Prelude.{◌≡◌, refl, List, [], ◌∷◌, ℕ, ◌≤◌}
use Rattle.std.proofs.Common.{ap, arith}
use Rattle.matching.specs.Decision.{because, accepted}
use Rattle.matching.specs.Edition.{Edition}
use Rattle.matching.specs.Graph.{over, largest}
use Rattle.matching.specs.Pairs.{Pair}
use Rattle.matching.specs.Causes.{opening_ruling, lent_inverse, lent_sequence, lent_witness, lent_work, LongEnough}
use Rattle.matching.specs.Filling.{graph_read}
use Rattle.matching.specs.Records.{Record, size, kind, Begins, begins_size, begins_share, begins_seed, begins_end, Progress, start, sized, weighted, ended, Due, size_due, seed_due, share_due, end_due, Takes, takes_size, takes_seed, takes_share, takes_end, Rejects, too_large_size, not_two, stood_already, Reading, sheet, unread, Reads, whole, not_due, stops, cut, rejected, goes_on, Fills, reads_records}
use Rattle.matching.specs.Computed.{nothing_due, begins_kind}
use Rattle.laws.specs.Edges.{fit_more}
use Rattle.laws.specs.Filling.{Fit, draws_fit, filled_accepted}

no_record : {A : Type 0} {r : Record} {rest : List ℕ} → Begins r [] rest → A
no_record = elim [ ]

begins_unique : {bytes rest rest' : List ℕ} {r r' : Record} → Begins r bytes rest → Begins r' bytes rest' → (r ≡ r') × (rest ≡ rest')
begins_unique begins_size begins_size = (refl, refl)
begins_unique begins_share begins_share = (refl, refl)
begins_unique begins_seed begins_seed = (refl, refl)
begins_unique begins_end begins_end = (refl, refl)

-- a record that is taken or rejected was due
takes_due : {E : Edition} {q next : Progress} {r : Record} → Takes E q r next → Due q (kind r)
takes_due (takes_size _) = size_due
takes_due takes_seed = seed_due
takes_due (takes_share _ _) = share_due
takes_due takes_end = end_due

rejects_due : {q : Progress} {r : Record} {cause : ℕ} → Rejects q r cause → Due q (kind r)
rejects_due (too_large_size _) = size_due
rejects_due (not_two _) = share_due
rejects_due (stood_already _ _) = share_due

takes_unique : {E : Edition} {q a b : Progress} {r : Record} → Takes E q r a → Takes E q r b → a ≡ b
takes_unique (takes_size _) (takes_size _) = refl
takes_unique takes_seed takes_seed = refl
takes_unique (takes_share _ _) (takes_share _ _) = refl
takes_unique takes_end takes_end = refl

rejects_unique : {q : Progress} {r : Record} {a b : ℕ} → Rejects q r a → Rejects q r b → a ≡ b
rejects_unique (too_large_size _) (too_large_size _) = refl
rejects_unique (not_two _) (not_two _) = refl
rejects_unique (not_two d) (stood_already h _) = absurd (d h)
rejects_unique (stood_already h _) (not_two d) = absurd (d h)
rejects_unique (stood_already _ _) (stood_already _ _) = refl

takes_or_rejects : {E : Edition} {q a : Progress} {r : Record} {cause : ℕ} → Takes E q r a → Rejects q r cause → ⊥
takes_or_rejects takes_seed j = elim j [ ]
takes_or_rejects (takes_size l) (too_large_size h) = omega arith
takes_or_rejects (takes_share h z) (not_two d) = d h
takes_or_rejects (takes_share h z) (stood_already _ e) = omega arith
takes_or_rejects takes_end j = elim j [ ]

first_due : {q : Progress} {k : ℕ} {body rest : List ℕ} {r : Record} → Begins r (k ∷ body) rest → Due q (kind r) → Due q k
first_due b d = rw (begins_kind b) d

pub reads_unique : {E : Edition} {len : ℕ} {q : Progress} {at : ℕ} {bytes : List ℕ} {a b : Reading} → Reads E len q at bytes a → Reads E len q at bytes b → a ≡ b
reads_unique whole whole = refl
reads_unique whole (stops d) = absurd (nothing_due d)
reads_unique whole (rejected b _) = no_record b
reads_unique whole (goes_on b _ _) = no_record b
reads_unique (stops d) whole = absurd (nothing_due d)
reads_unique (stops _) (stops _) = refl
reads_unique (stops _) (rejected b _) = no_record b
reads_unique (stops _) (goes_on b _ _) = no_record b
reads_unique (not_due _) (not_due _) = refl
reads_unique (not_due d) (cut e _) = absurd (d e)
reads_unique (not_due d) (rejected b j) = absurd (d (first_due b (rejects_due j)))
reads_unique (not_due d) (goes_on b t _) = absurd (d (first_due b (takes_due t)))
reads_unique (cut e _) (not_due d) = absurd (d e)
reads_unique (cut _ _) (cut _ _) = refl
reads_unique (cut _ f) (rejected {rest = rest} {r = r} b _) = absurd (f r rest b)
reads_unique (cut _ f) (goes_on {rest = rest} {r = r} b _ _) = absurd (f r rest b)
reads_unique (rejected b _) whole = no_record b
reads_unique (rejected b _) (stops _) = no_record b
reads_unique (rejected b j) (not_due d) = absurd (d (first_due b (rejects_due j)))
reads_unique (rejected {rest = rest} {r = r} b _) (cut _ f) = absurd (f r rest b)
reads_unique {q = q} {at = at} (rejected {cause = c} {r = r} b j) (rejected {cause = d} {r = r'} b' j') =
    let e : r' ≡ r = (begins_unique b' b).0 in ap (λ k. unread (because k at)) (rejects_unique j (rw e at j'))
reads_unique {q = q} (rejected {r = r} b j) (goes_on {r = r'} b' t _) =
    let e : r' ≡ r = (begins_unique b' b).0 in absurd (takes_or_rejects (rw e at t) j)
reads_unique (goes_on b _ _) whole = no_record b
reads_unique (goes_on b _ _) (stops _) = no_record b
reads_unique (goes_on b t _) (not_due d) = absurd (d (first_due b (takes_due t)))
reads_unique (goes_on {rest = rest} {r = r} b _ _) (cut _ f) = absurd (f r rest b)
reads_unique {q = q} (goes_on {r = r} b t _) (rejected {r = r'} b' j) =
    let e : r' ≡ r = (begins_unique b' b).0 in absurd (takes_or_rejects t (rw e at j))
reads_unique (goes_on {next = n} {rest = rest} {r = r} b t R) (goes_on {next = n'} {rest = rest'} {r = r'} b' t' R') =
    let u = begins_unique b' b in
    let e : n' ≡ n = takes_unique (rw u.0 at t') t in
    reads_unique R (rw (e, u.0, u.1) at R')

-- what holds of the sheet so far
abbrev pub So : Edition → Progress → Type 0
So E start = Unit {0}
So E (sized n) = n ≤ largest
So E (weighted n weights edges) = Fit E n weights edges
So E (ended n weights edges) = Fit E n weights edges

pub takes_so : {E : Edition} {q next : Progress} {r : Record} → Takes E q r next → So E q → So E next
takes_so (takes_size l) _ = l
takes_so {E} (takes_seed {n = n} {s = s}) l = record { small = l; weights_fit = draws_fit E n s; edges_fit = tt; different = tt }
takes_so (takes_share {n = n} {a = a} {b = b} {edges = edges} h z) F = record {
  small = F.small;
  weights_fit = F.weights_fit;
  edges_fit = fit_more n a b edges h F.edges_fit;
  different = (z, F.different);
}
takes_so takes_end F = F

pub reads_fit : {E : Edition} {len : ℕ} {q : Progress} {at : ℕ} {bytes : List ℕ} {r : Reading} {n : ℕ} {weights : List ℕ} {edges : List Pair} → Reads E len q at bytes r
    → r ≡ sheet n weights edges → So E q → Fit E n weights edges
reads_fit {n = n} {weights = weights} {edges = edges} (whole {n = m} {weights = w} {edges = es}) e F =
    let a : m ≡ n = cc in
    let b : w ≡ weights = cc in
    let c : es ≡ edges = cc in
    rw (a, b, c) at F
reads_fit (not_due _) e F = absurd (let z : ◌≡◌ {A = ℕ} 0 1 = cc in omega arith)
reads_fit (stops _) e F = absurd (let z : ◌≡◌ {A = ℕ} 0 1 = cc in omega arith)
reads_fit (cut _ _) e F = absurd (let z : ◌≡◌ {A = ℕ} 0 1 = cc in omega arith)
reads_fit (rejected _ _) e F = absurd (let z : ◌≡◌ {A = ℕ} 0 1 = cc in omega arith)
reads_fit (goes_on _ t R) e F = reads_fit R e (takes_so t F)

-- so opening, lent other buffers that are long enough, does not refuse what was read from a sheet
pub sheet_accepted : {E : Edition} {bytes adjacency weights a w : List ℕ} {n m : ℕ} (inverse sequence witness work : ℕ) → Fills E bytes adjacency weights (graph_read n m) a w
    → LongEnough (lent_inverse n inverse ∷ lent_sequence n sequence ∷ lent_witness n witness ∷ lent_work n work ∷ [])
    → opening_ruling E.modulus (over n a w) inverse sequence witness work ≡ accepted
sheet_accepted inverse sequence witness work (reads_records R F) long = filled_accepted inverse sequence witness work (reads_fit R refl tt) F long
