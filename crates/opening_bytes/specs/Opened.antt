-- Opening through the host: over the words that the graph needs, unpacked from bytes and packed again. Assumes nothing.
use Rattle.std.specs.Prelude.{◌≡◌, refl, ℕ, ◌*◌, ◌/◌, ◌^◌, ◌≤◌, ◌<◌, length, get_or, replicate}
use Rattle.std.proofs.Math.Path.{sym, ap}
use Rattle.std.proofs.Common.{◌∙◌, arith}
use mathlib.Core.List.{List, [], ◌∷◌, ◌++◌}
use Rattle.std.proofs.Math.Decide.{dec_lt}
use Rattle.std.proofs.lemmas.List.{length-replicate}
use Rattle.residue.specs.Modulus.{modulus}
use Rattle.matching.specs.Decision.{Every, place_number, Refusal, Ruling, accepted, refused, judge, unless}
use Rattle.matching.specs.Edition.{first_edition}
use Rattle.matching.specs.Graph.{Graph, largest, pair_count, over}
use Rattle.matching.specs.Causes.{Lent, lent_always, lent_besides, lent_to_opening, too_large, too_short, bad_cell, bad_weight, opening_ruling}
use Rattle.matching.specs.Pairs.{everything}
use Rattle.matching.specs.Opening.{Opening, opened, singular, not_opened, Buffers, ruling, with_inverse, with_witness, Opens, refuses_opening, opens, finds_singular}
use Rattle.matching.specs.Host.{words, Bytes, opening_number, unpacked, HostOpens}
use Rattle.laws.specs.Sound.{OpeningFits, opening_fits, short_absent}
use Rattle.laws.specs.Numbers as numbers
use Rattle.laws.specs.Words.{words_length, stored_front}
use Rattle.laws.specs.Judge.{when_absent}
use Rattle.checks.specs.Weights.{needed}
use Rattle.checks.specs.Lengths.{lengths_refused, lengths_accepted}
use Rattle.checks.specs.Opening.{graph_causes}
use Rattle.opening.specs.Meaning.{buffers}
use Rattle.opening_pack.specs.Packed.{after}
use Rattle.crossing.specs.Same.{cells_same, weights_same, table_same, singular_same}
use Rattle.crossing.specs.Needed.{needed_weights, needed_agree, needed_counted, needed_fits}

-- the number of vertices and the lengths of the host's bytes are in order
pub record HostOpeningFits (n : ℕ) (adjacency weights : List ℕ) (b : Buffers) : Type 0 where
  pub size : n ≤ largest
  pub fits : OpeningFits (over n adjacency (words 2 weights)) (length (words 2 b.inverse)) (length b.sequence) (length (words 2 b.witness)) (length (words 2 b.work))

-- words are lent: for the weights that n vertices need, the inverse, the witness and the work
pub record Lends (n : ℕ) (values table vector spare : List ℕ) : Type 0 where
  pub counted : length values ≡ needed n
  pub cells : length table ≡ n * n
  pub vertices : length vector ≡ n
  pub spare_cells : length spare ≡ n * n

-- the number of vertices and the lengths are judged
module _ (n : ℕ) (adjacency weights : List ℕ) (b : Buffers) where
  abbrev pub room : Ruling
  room =
      judge
      (too_large n
      ∷ too_short (lent_always n (length adjacency) (length weights / 2) (length b.inverse / 2) (length b.sequence) ++ lent_besides n (length b.witness / 2) (length b.work / 2))
      ∷ [])

  abbrev graph : Graph
  graph = over n adjacency (words 2 weights)

  abbrev words_long : List Lent
  words_long = lent_to_opening graph (length (words 2 b.inverse)) (length b.sequence) (length (words 2 b.witness)) (length (words 2 b.work))

  in_words : judge (too_large n ∷ too_short words_long ∷ []) ≡ room
  in_words = rw (words_length 2 weights, words_length 2 b.inverse, words_length 2 b.witness, words_length 2 b.work)

  pub room_refused : {r : Refusal} → refused r ≡ room → ruling modulus graph (unpacked first_edition b) ≡ refused r
  unfolding opening_ruling
  room_refused {r} e = lengths_refused n words_long [] (graph_causes modulus graph) r (in_words ∙ sym e)

  pub room_accepted : accepted ≡ room → HostOpeningFits n adjacency weights b
  room_accepted e =
      let k = lengths_accepted n words_long [] [] (in_words ∙ sym e) in
      record { size = k.0; fits = (opening_fits graph (length (words 2 b.inverse)) (length b.sequence) (length (words 2 b.witness)) (length (words 2 b.work))).0 k.1 }

  -- a refusal on words is one through the host
  module _ {r : Refusal} (e : ruling modulus graph (unpacked first_edition b) ≡ refused r) where
    pub host_refuses : HostOpens first_edition n adjacency weights b (opening_number (not_opened r)) b
    host_refuses = record { opening = not_opened r; buffers = unpacked first_edition b; outcome = refuses_opening r e; numbered = refl; stored = refl }

    pub refusal_small : place_number r.place < 2 ^ 24
    refusal_small = numbers.place_below (numbers.opens_small {S = everything} {b = unpacked first_edition b} (refuses_opening r e))

-- if the number of vertices and the lengths are in order, only the cells and the weights remain to be judged
long_ruling : (g : Graph) (b : Buffers) → g.n ≤ largest
    → OpeningFits g (length b.inverse) (length b.sequence) (length b.witness) (length b.work)
    → ruling modulus g b ≡ judge (graph_causes modulus g)
unfolding opening_ruling
long_ruling g b size long =
    rw (
      (when_absent (dec_lt largest g.n) 0).1 (λ l. omega arith),
      (short_absent (lent_to_opening g (length b.inverse) (length b.sequence) (length b.witness) (length b.work))
          ).1 ((opening_fits g (length b.inverse) (length b.sequence) (length b.witness) (length b.work)).1 long),
    )

module _ (n : ℕ) (adjacency weights : List ℕ) (b : Buffers) (F : HostOpeningFits n adjacency weights b) where
  abbrev pub words_needed : Graph
  words_needed = over n adjacency (needed_weights n weights)

  agree : Every (pair_count n) (λ x. get_or (needed_weights n weights) x 0 ≡ get_or (words 2 weights) x 0)
  agree = needed_agree n weights F.size

  causes_same : judge (graph_causes modulus words_needed) ≡ judge (graph_causes modulus (graph n adjacency weights b))
  unfolding bad_cell bad_weight
  causes_same =
      ap (λ f. unless f 3 (unless (bad_weight modulus words_needed).finding 4 accepted)) (cells_same n adjacency (needed_weights n weights) (words 2 weights))
      ∙ ap (λ f. unless (bad_cell (graph n adjacency weights b)).finding 3 (unless f 4 accepted)) (weights_same n adjacency (needed_weights n weights) (words 2 weights) agree modulus)

  pub weights_fit : 2 * needed n ≤ length weights
  weights_fit = needed_fits n weights F.size F.fits.graph.weights

  -- the bytes have room for the words
  pub inverse_fits : 2 * (n * n) ≤ length b.inverse
  inverse_fits = omega (arith, F.fits.inverse_fits, words_length 2 b.inverse)

  pub witness_fits : 2 * n ≤ length b.witness
  witness_fits = omega (arith, F.fits.witness_fits, words_length 2 b.witness)

  pub work_fits : 2 * (n * n) ≤ length b.work
  work_fits = omega (arith, F.fits.work_fits, words_length 2 b.work)

  -- opening over lent words
  module _ {values table vector spare : List ℕ} (L : Lends n values table vector spare) where
    abbrev pub lent : Buffers
    lent = buffers table b.sequence vector spare

    -- it is refused for the same cause
    same_ruling : ruling modulus (graph n adjacency weights b) (unpacked first_edition b) ≡ ruling modulus words_needed lent
    same_ruling =
        let counted = needed_counted n weights F.size F.fits.graph.weights in
        let part =
        long_ruling words_needed lent F.size
        (
        record {
          graph = record { cells = F.fits.graph.cells; weights = omega arith };
          inverse_fits = omega (arith, L.cells);
          sequence_fits = F.fits.sequence_fits;
          witness_fits = omega (arith, L.vertices);
          work_fits = omega (arith, L.spare_cells);
        }
        ) in
        long_ruling (graph n adjacency weights b) (unpacked first_edition b) F.size F.fits ∙ sym causes_same ∙ sym part

    -- and what it leaves, stored as bytes, is what opening through the host leaves
    pub host_opens : {o : Opening} {left : Buffers} → Bytes b.inverse → Bytes b.witness → Bytes b.work → Opens modulus words_needed everything lent o left
        → HostOpens first_edition n adjacency weights b (opening_number o) (after n o left b)
    host_opens inverse-bytes witness-bytes work-bytes (refuses_opening r e) = host_refuses n adjacency weights b (same_ruling ∙ e)
    host_opens inverse-bytes witness-bytes work-bytes (opens new ok l I) = record {
      opening = opened _;
      buffers = with_inverse n new (unpacked first_edition b);
      outcome = opens new (same_ruling ∙ ok) l (table_same n adjacency (needed_weights n weights) (words 2 weights) agree I);
      numbered = refl;
      stored =
          rw (
            stored_front 2 new table b.inverse (n * n) inverse-bytes l F.fits.inverse_fits,
            stored_front 2 (replicate n 0) vector b.witness n witness-bytes (length-replicate {A = ℕ} n 0) F.fits.witness_fits,
            stored_front 2 (replicate (n * n) 0) spare b.work (n * n) work-bytes (length-replicate {A = ℕ} (n * n) 0) F.fits.work_fits,
          );
    }
    host_opens inverse-bytes witness-bytes work-bytes (finds_singular f new ok l s) = record {
      opening = singular f;
      buffers = with_witness n new (unpacked first_edition b);
      outcome = finds_singular f new (same_ruling ∙ ok) l (singular_same n adjacency (needed_weights n weights) (words 2 weights) agree s);
      numbered = refl;
      stored =
          rw (
            stored_front 2 (replicate (n * n) 0) table b.inverse (n * n) inverse-bytes (length-replicate {A = ℕ} (n * n) 0) F.fits.inverse_fits,
            stored_front 2 new vector b.witness n witness-bytes l F.fits.witness_fits,
            stored_front 2 (replicate (n * n) 0) spare b.work (n * n) work-bytes (length-replicate {A = ℕ} (n * n) 0) F.fits.work_fits,
          );
    }
