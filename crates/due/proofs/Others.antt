-- What is known of the kind of a record if its variant is none of some. Assumes nothing.
use Rattle.std.specs.Prelude.{◌≡◌, refl, ◌≢◌, true, false, not, List, [], ◌∷◌, ℕ, ◌+◌, T, eqb}
use mir.Val.{has_key}
use types.Run.{OneOf, miss}
use denote.Enum.Declared.{tag_of}
use Rattle.matching.specs.Records.{kind}
use Rattle.records.specs.Stands.{record_of}
use Rattle.records.specs.declared.Record.{Record}
use Rattle.records.specs.declared.Record.TheVariants.{Size, Share, Seed, End}
use Rattle.records.specs.contracts.Record.{the_type}

-- the kinds of record in the order of the code's variants
abbrev kinds : List ℕ
kinds = 1 ∷ 2 ∷ 3 ∷ 4 ∷ []

-- the number of a kind's variant
abbrev variant : List ℕ → ℕ → ℕ
variant [] k = 0
variant (j ∷ js) k = elim (eqb j k) as (λ _. ℕ) [ true ↦ 0 | false ↦ variant js k + 1 ]

-- the variants, from v on, of the kinds that no arm before has taken
abbrev untaken : List ℕ → (v : ℕ) → List ℕ → List ℕ
untaken taken v [] = []
untaken taken v (k ∷ ks) =
    let later : List ℕ = untaken taken (v + 1) ks in elim (has_key taken k) as (λ _. List ℕ) [ true ↦ later | false ↦ v ∷ later ]

-- a match whose other arms have taken these kinds is left with this record
abbrev pub Left : List ℕ → Record → Type 0
Left taken r = OneOf (untaken taken 0 kinds) (tag_of the_type r)

variant_tag : (r : Record) → tag_of the_type r ≡ variant kinds (kind (record_of r))
variant_tag (Size _) = refl
variant_tag (Share _) = refl
variant_tag (Seed _) = refl
variant_tag End = refl

-- so it is not of a kind taken
pub other_kind : (taken : List ℕ) (r : Record) (k : ℕ) → Left taken r → T (not (has_key (untaken taken 0 kinds) (variant kinds k))) → kind (record_of r) ≢ k
other_kind taken r k left none e = miss (untaken taken 0 kinds) (variant kinds k) none (rw (variant_tag r, e) at left)
