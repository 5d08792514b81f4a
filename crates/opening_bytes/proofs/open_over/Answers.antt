-- `opening_bytes::open_over` meets its contract: what opening leaves over the words that the graph needs is packed. Assumes nothing.
use Rattle.std.proofs.Common.{◌≡◌, List, ℕ, length, take, ap, ◌∙◌, arith}
use borrow.Author.Rules.{rules}
use Rattle.matching.specs.Host.{words}
use Rattle.crossing.specs.Needed.{needed_weights}
use Rattle.opening_pack.specs.Packed.{opening_number_fits}
use Rattle.opening_bytes.specs.Opened.{Lends, weights_fit, inverse_fits, witness_fits, work_fits, host_opens}
use Rattle.opening_bytes.proofs.open_over.Goals as goal

-- the words unpacked are the weights that the graph needs
values_are : {n : ℕ} {values table vector spare target : List ℕ} (weights : List ℕ) → Lends n values table vector spare
    → target ≡ take (length values) (words 2 weights) → target ≡ needed_weights n weights
values_are weights L e = e ∙ ap (λ k. take k (words 2 weights)) L.counted

pub unpack-requires : goal.unpack-requires
unpack-requires c = omega (arith, weights_fit _ _ _ _ c.requires.host_opening_fits, c.requires.lends.counted)

pub pack-requires-clause-enough_bytes : goal.pack-requires-clause-enough_bytes
pack-requires-clause-enough_bytes c =
    let F = c.requires.host_opening_fits in
    (inverse_fits _ _ _ _ F, witness_fits _ _ _ _ F, work_fits _ _ _ _ F)

pub pack-requires-clause-number_fits : goal.pack-requires-clause-number_fits
pack-requires-clause-number_fits c =
    opening_number_fits (rw (values_are c.args.weights.now c.requires.lends c.unpack.ensures) at c.begin-opened.ensures.opens)

pub returns : goal.returns
returns c =
    rw (c.pack.ensures.numbered, c.pack.ensures.stored c.begin-opened.new.sequence c.args.sequence.now)
    (host_opens _ _ _ _ c.requires.host_opening_fits c.requires.lends (search rules) (search rules) (search rules)
    (rw (values_are c.args.weights.now c.requires.lends c.unpack.ensures) at c.begin-opened.ensures.opens))
