-- Weights that a reader has left in words of its own, at most those that the largest graph needs, stored as the host's bytes. Assumes
-- nothing.
use Rattle.std.specs.Prelude.{◌≡◌, refl, List, ℕ, ◌*◌, ◌/◌, ◌≤◌, ◌<◌, min, take, drop}
use Rattle.std.proofs.Common.{sym, ◌∙◌, arith, length-append}
use Rattle.std.proofs.Math.Decide.{dec_lt}
use Rattle.std.proofs.Math.ListN.{length}
use Rattle.lists.specs.Choose.{choose}
use Rattle.lists.specs.Onto.{onto}
use Rattle.matching.specs.Decision.{index, absent, at, unless, accepted}
use Rattle.matching.specs.Edition.{first_edition}
use Rattle.matching.specs.Graph.{largest, pair_count}
use Rattle.matching.specs.Pairs.{Pair}
use Rattle.matching.specs.Filling.{Read, graph_read, not_read, room, Filled, lacks_room, fills}
use Rattle.matching.specs.Host.{words, Bytes, bytes_of, weights_stored}
use Rattle.laws.specs.Filling.{Fit}
use Rattle.laws.specs.Words.{words_length, stored_front}
use Rattle.checks.specs.Weights.{needed, needed_all, needed_small}
use Rattle.filling.specs.Written.{drawn_needed}

-- the number of weights that are stored: 0 on a refusal
abbrev pub stored_of : Read → ℕ
stored_of (graph_read n m) = needed n
stored_of (not_read why) = 0

-- values has the words for which weights has room, but at most those that the largest graph needs
pub record StoreRoom (values weights : List ℕ) : Type 0 where
  pub within : length values ≤ length (words 2 weights)
  pub enough : (k : ℕ) → k ≤ 4560 → k ≤ length (words 2 weights) → k ≤ length values

pub room_serves : {values : List ℕ} (weights : List ℕ) → length values ≡ min (length weights / 2) 4560 → StoreRoom values weights
room_serves weights e =
    record { within = omega (arith, words_length 2 weights); enough = λ k h l. omega (arith, words_length 2 weights) }

-- what was filled over words, through the host
pub record Stored (n : ℕ) (drawn : List ℕ) (edges : List Pair) (adjacency weights : List ℕ) (given : Read) (adjacency' weights' : List ℕ) : Type 0 where
  pub left : List ℕ
  pub filled : Filled n drawn edges adjacency (words 2 weights) given adjacency' left
  pub stored : weights' ≡ weights_stored first_edition given left weights

-- two lists of words have room for the same graphs, if they have room for the same number of weights
room_same : (n : ℕ) (adjacency values ws : List ℕ) → (pair_count n ≤ length values → pair_count n ≤ length ws) → (pair_count n ≤ length ws → pair_count n ≤ length values)
    → room n adjacency values ≡ room n adjacency ws
room_same n adjacency values ws f g = go (dec_lt (length values) (pair_count n)) (dec_lt (length ws) (pair_count n))
  where
    go : (c : Dec (length values < pair_count n)) (d : Dec (length ws < pair_count n))
        → unless (choose (dec_lt (length adjacency) (n * n)) (at (index 1)) (choose c (at (index 2)) absent)) 2 accepted
        ≡ unless (choose (dec_lt (length adjacency) (n * n)) (at (index 1)) (choose d (at (index 2)) absent)) 2 accepted
    go (yes _) (yes _) = refl
    go (no _) (no _) = refl
    go (yes c) (no d) = absurd (omega (arith, g (omega arith)))
    go (no c) (yes d) = absurd (omega (arith, f (omega arith)))

-- if no buffer is too short, the weights are not
room_weights : (n : ℕ) (adjacency ws : List ℕ) → room n adjacency ws ≡ accepted → pair_count n ≤ length ws
room_weights n adjacency ws = go (dec_lt (length adjacency) (n * n)) (dec_lt (length ws) (pair_count n))
  where
    go : (c : Dec (length adjacency < n * n)) (d : Dec (length ws < pair_count n)) → unless (choose c (at (index 1)) (choose d (at (index 2)) absent)) 2 accepted ≡ accepted
        → pair_count n ≤ length ws
    go _ (no d) e = omega arith
    go (yes c) (yes d) e = absurd (let z : ◌≡◌ {A = ℕ} 0 1 = cc in omega arith)
    go (no c) (yes d) e = absurd (let z : ◌≡◌ {A = ℕ} 0 1 = cc in omega arith)

module _ {values weights : List ℕ} (R : StoreRoom values weights) where
  -- for a graph of at most 96 vertices
  same : (n : ℕ) (adjacency : List ℕ) → n ≤ largest → room n adjacency values ≡ room n adjacency (words 2 weights)
  same n adjacency h =
      room_same n adjacency values (words 2 weights) (λ l. omega (arith, R.within)) (λ l. R.enough (pair_count n) (omega (arith, needed_small n, needed_all n h)) l)

  module _ {n : ℕ} {drawn : List ℕ} {edges : List Pair} (F : Fit first_edition n drawn edges) (adjacency : List ℕ) where
    -- there is room for what is stored
    pub stores : {adjacency' left : List ℕ} {given : Read} → Filled n drawn edges adjacency values given adjacency' left → (stored_of given ≤ length left) × (2 * stored_of given ≤ length weights)
    stores (lacks_room _) = (omega arith, omega arith)
    stores (fills e) =
        let room : pair_count n ≤ length values = room_weights n adjacency values e in (
          omega (arith, drawn_needed F, length-append drawn (drop (length drawn) values)),
          omega (arith, needed_all n F.small, R.within, words_length 2 weights),
        )

    -- it is stored
    pub stores_so : {adjacency' left weights' : List ℕ} {given : Read} → Bytes weights → Filled n drawn edges adjacency values given adjacency' left
        → weights' ≡ onto (bytes_of 2 (take (stored_of given) left)) weights → Stored n drawn edges adjacency weights given adjacency' weights'
    unfolding bytes_of
    stores_so B (lacks_room e) w = record { left = words 2 weights; filled = lacks_room (sym (same n adjacency F.small) ∙ e); stored = w }
    stores_so B (fills e) w =
        let room : pair_count n ≤ length values = room_weights n adjacency values e in
        record {
          left = onto drawn (words 2 weights);
          filled = fills (sym (same n adjacency F.small) ∙ e);
          stored = w ∙ stored_front 2 drawn values weights (needed n) B (drawn_needed F) (omega (arith, needed_all n F.small, R.within));
        }
