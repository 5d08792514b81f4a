-- What an accepting ruling says: the number of vertices, the lengths, the tables and the session are in order; and conversely.
-- Assumes nothing.
use Rattle.std.specs.Prelude.{◌≡◌, refl, ◌↔◌, List, [], ◌∷◌, ◌++◌, ℕ, ◌*◌, ◌≤◌, ◌<◌, length}
use Rattle.std.proofs.Common.{arith}
use Rattle.std.proofs.Math.Decide.{ℕ_discrete, dec_lt}
use Rattle.lists.specs.Choose.{choose}
use Rattle.matching.specs.Decision.{Every, index, absent, at, when, Cause, accepted, judge}
use Rattle.matching.specs.Graph.{Graph, largest, pair_count, fault_at, InRange, InOrder}
use Rattle.matching.specs.Session.{State, in_play, graph_of, pairs_of, InverseTable, WellFormed, KeptFits}
use Rattle.matching.specs.Pairs.{unmatched}
use Rattle.matching.specs.Decided.{inverse_table?, well_formed_session?}
use Rattle.matching.specs.Causes.{Lent, LongEnough, lent_kept, lent_graph, lent_to_opening, opening_causes, lent_to_session, session_causes, too_large, first_short, first_faulty, cell_at, bad_cell, in_range?, first_outside, bad_weight, ill_formed, not_inverse, opening_ruling, session_ruling}
use Rattle.laws.specs.Judge.{stable, clash, NoneApplies, judge_accepted, when_absent, unless_absent, found_absent}

pub short_absent : (buffers : List Lent) → (first_short buffers ≡ absent) ↔ LongEnough buffers
short_absent [] = (λ _. tt, λ _. refl)
short_absent (b ∷ later) = go (dec_lt b.length b.needed) (short_absent later)
  where
    go : (d : Dec (b.length < b.needed)) → (first_short later ≡ absent) ↔ LongEnough later
        → (choose d (at (index b.number)) (first_short later) ≡ absent) ↔ ((b.needed ≤ b.length) × LongEnough later)
    go (yes l) r = (λ e. clash e, λ h. absurd (omega (arith, h.0)))
    go (no l) r = (λ e. (omega arith, r.0 e), λ h. r.1 h.1)

-- the tables of a graph are long enough
pub record GraphFits (g : Graph) : Type 0 where
  pub cells : g.n * g.n ≤ length g.adjacency
  pub weights : pair_count g.n ≤ length g.weights

-- and so are the other buffers that opening is lent, by their lengths
pub record OpeningFits (g : Graph) (inverse sequence witness work : ℕ) : Type 0 where
  pub graph : GraphFits g
  pub inverse_fits : g.n * g.n ≤ inverse
  pub sequence_fits : g.n ≤ sequence
  pub witness_fits : g.n ≤ witness
  pub work_fits : g.n * g.n ≤ work

-- and those that a session call is lent
pub record SessionFits (s : State) : Type 0 where
  pub graph : GraphFits (graph_of s)
  pub inverse_fits : s.session.size * s.session.size ≤ length s.inverse
  pub sequence_fits : s.session.size ≤ length s.sequence
  pub kept_fits : s.session.size ≤ length s.kept

pub graph_fits : (g : Graph) → LongEnough (lent_graph g) ↔ GraphFits g
graph_fits g = (λ h. record { cells = h.0; weights = h.1.0 }, λ f. (f.cells, (f.weights, tt)))

pub opening_fits : (g : Graph) (inverse sequence witness work : ℕ)
    → LongEnough (lent_to_opening g inverse sequence witness work) ↔ OpeningFits g inverse sequence witness work
opening_fits g inverse sequence witness work = (
  λ h. record {
    graph = record { cells = h.0; weights = h.1.0 };
    inverse_fits = h.1.1.0;
    sequence_fits = h.1.1.1.0;
    witness_fits = h.1.1.1.1.0;
    work_fits = h.1.1.1.1.1.0;
  },
  λ f.
      (f.graph.cells, (f.graph.weights, (f.inverse_fits, (f.sequence_fits, (f.witness_fits, (f.work_fits, tt)))))),
)

-- the buffers of two lists
long_both : (a b : List Lent) → LongEnough (a ++ b) ↔ (LongEnough a × LongEnough b)
long_both [] b = (λ h. (tt, h), λ h. h.1)
long_both (x ∷ a) b = let k = long_both a b in (λ h. ((h.0, (k.0 h.1).0), (k.0 h.1).1), λ h. (h.0.0, k.1 (h.0.1, h.1)))

pub session_fits : (s : State) (before after : List Lent)
    → LongEnough (lent_to_session s before after) ↔ (SessionFits s × LongEnough before × LongEnough after)
session_fits s before after =
    let m = long_both before (lent_kept s.session.size (length s.kept) ∷ after) in (
      λ h.
          let k = m.0 h.1.1.1.1 in (
            record {
              graph = record { cells = h.0; weights = h.1.0 };
              inverse_fits = h.1.1.0;
              sequence_fits = h.1.1.1.0;
              kept_fits = k.1.0;
            },
            k.0,
            k.1.1,
          ),
      λ f.
          (f.0.graph.cells, (f.0.graph.weights, (f.0.inverse_fits, (f.0.sequence_fits, m.1 (f.1, (f.0.kept_fits, f.2)))))),
    )

size_ok : (n : ℕ) → ((too_large n).finding ≡ absent) ↔ (n ≤ largest)
size_ok n =
    let r = when_absent (dec_lt largest n) 0 in
    (λ e. let h : ¬ (largest < n) = r.0 e in omega arith, λ l. r.1 (λ h. omega arith))

cells_ok : (g : Graph) → ((bad_cell g).finding ≡ absent) ↔ Every (g.n * g.n) (λ x. fault_at g x ≡ 0)
unfolding bad_cell
cells_ok g =
    let r = found_absent (cell_at g) (first_faulty g) in
    (λ e x l. stable (ℕ_discrete (fault_at g x) 0) (r.0 e x l), λ h. r.1 (λ x l d. d (h x l)))

weights_ok : (p : ℕ) (g : Graph) → ((bad_weight p g).finding ≡ absent) ↔ Every (pair_count g.n) (InRange g p)
unfolding bad_weight
weights_ok p g =
    let r = found_absent index (first_outside p g) in
    (λ e x l. stable (in_range? p g x) (r.0 e x l), λ h. r.1 (λ x l d. d (h x l)))

-- none of opening's causes applies exactly when the buffers are long enough and the graph is in order
pub graph_in_order : (p : ℕ) (g : Graph) (buffers : List Lent) → NoneApplies (opening_causes p g buffers) ↔ (LongEnough buffers × InOrder p g)
graph_in_order p g buffers =
    let s = short_absent buffers in (
      λ a. (
        s.0 a.1.0,
        record { size = (size_ok g.n).0 a.0; cells = (cells_ok g).0 a.1.1.0; weights = (weights_ok p g).0 a.1.1.1.0 },
      ),
      λ h. ((size_ok g.n).1 h.1.size, (s.1 h.0, ((cells_ok g).1 h.1.cells, ((weights_ok p g).1 h.1.weights, tt)))),
    )

pub opening_accepted : (p : ℕ) (g : Graph) (inverse sequence witness work : ℕ)
    → (opening_ruling p g inverse sequence witness work ≡ accepted)
    ↔ (OpeningFits g inverse sequence witness work × InOrder p g)
unfolding opening_ruling
opening_accepted p g inverse sequence witness work =
    let r = judge_accepted (opening_causes p g (lent_to_opening g inverse sequence witness work)) in
    let o = graph_in_order p g (lent_to_opening g inverse sequence witness work) in
    let f = opening_fits g inverse sequence witness work in
    (λ e. let h = o.0 (r.0 e) in (f.0 h.0, h.1), λ h. r.1 (o.1 (f.1 h.0, h.1)))

-- a sound session over a graph in order
pub record Sound (p : ℕ) (s : State) : Type 0 where
  pub in_order : InOrder p (graph_of s)
  pub well_formed : WellFormed (graph_of s) s.session.made s.sequence
  pub kept_fits : KeptFits s.session.size s.session.made s.sequence s.kept
  pub as_defined : InverseTable p (graph_of s) (unmatched (in_play s) (pairs_of s)) s.inverse

pub session_in_order : (p : ℕ) (s : State) (before after : List Lent)
    → NoneApplies (session_causes p s before after) ↔ (LongEnough (lent_to_session s before after) × Sound p s)
unfolding ill_formed not_inverse
session_in_order p s before after =
    let o = graph_in_order p (graph_of s) (lent_to_session s before after) in
    let w = unless_absent (well_formed_session? s) 0 in
    let h = unless_absent (inverse_table? p (graph_of s) (unmatched (in_play s) (pairs_of s)) s.inverse) 0 in (
      λ a.
          let k = o.0 (a.0, (a.1.0, (a.1.1.0, (a.1.1.1.0, tt)))) in
          let f = w.0 a.1.1.1.1.0 in
          (k.0, record { in_order = k.1; well_formed = f.0; kept_fits = f.1; as_defined = h.0 a.1.1.1.1.1.0 }),
      λ c.
          let k = o.1 (c.0, c.1.in_order) in
          (k.0, (k.1.0, (k.1.1.0, (k.1.1.1.0, (w.1 (c.1.well_formed, c.1.kept_fits), (h.1 c.1.as_defined, tt)))))),
    )

pub session_accepted : (p : ℕ) (s : State) → (session_ruling p s ≡ accepted) ↔ (SessionFits s × Sound p s)
unfolding session_ruling
session_accepted p s =
    let r = judge_accepted (session_causes p s [] []) in
    let o = session_in_order p s [] [] in
    let f = session_fits s [] [] in
    (λ e. let h = o.0 (r.0 e) in ((f.0 h.0).0, h.1), λ h. r.1 (o.1 (f.1 (h.0, tt, tt), h.1)))

-- none of the causes of two lists applies
none_both : (a b : List Cause) → NoneApplies (a ++ b) ↔ (NoneApplies a × NoneApplies b)
none_both [] b = (λ h. (tt, h), λ h. h.1)
none_both (c ∷ a) b = let k = none_both a b in (λ h. ((h.0, (k.0 h.1).0), (k.0 h.1).1), λ h. (h.0.0, k.1 (h.0.1, h.1)))

-- a session call that is lent more buffers, before and after the kept row, and looks at `later` after 1 to 6 is accepted exactly when the
-- session is sound, these buffers are long enough, and none of the later causes applies
pub more_accepted : (p : ℕ) (s : State) (before after : List Lent) (later : List Cause)
    → (judge (session_causes p s before after ++ later) ≡ accepted)
    ↔ ((session_ruling p s ≡ accepted) × LongEnough before × LongEnough after × (judge later ≡ accepted))
more_accepted p s before after later =
    let r = judge_accepted (session_causes p s before after ++ later) in
    let n = none_both (session_causes p s before after) later in
    let o = session_in_order p s before after in
    let l = session_fits s before after in (
      λ e.
          let none = n.0 (r.0 e) in
          let ok = o.0 none.0 in
          let long = l.0 ok.0 in
          ((session_accepted p s).1 (long.0, ok.1), long.1, long.2, (judge_accepted later).1 none.1),
      λ h.
          let ok = (session_accepted p s).0 h.0 in
          r.1 (n.1 (o.1 (l.1 (ok.0, h.1, h.2), ok.1), (judge_accepted later).0 h.3)),
    )
