-- `replay_bytes::replay_over` meets its contract. Assumes nothing.
use Rattle.std.proofs.Common.{refl, ◌∙◌}
use Rattle.matching.specs.Host.{bytes_of}
use Rattle.replay.specs.Run.{unchanged}
use Rattle.replay_bytes.specs.HostReplay.{replays_fit}
use Rattle.replay_bytes.proofs.replay_over.Goals as goal
use Rattle.replay_bytes.proofs.replay_over.Goals.{then-replayed, else-replayed}

pub ruled-requires : goal.ruled-requires
ruled-requires c = replays_fit c.replay-replayed.ensures.run

pub returns : goal.returns
unfolding bytes_of
returns c =
    let replayed = c.replay-replayed in
    record {
      verdict = _;
      left = _;
      changed = _;
      outcome = replayed.ensures.run;
      numbered = c.ruled.ensures replayed.result.session.size;
      stored =
          elim c.if-replayed.branch [
            | then-replayed w ↦ rw (w.if-replayed.true, ← replayed.auto.inverse) (w.inverse-is ∙ w.store.ensures)
            | else-replayed w ↦ rw w.if-replayed.false w.inverse-is
          ];
      sequence = refl;
      unchanged = unchanged _ _ _ replayed.ensures.run replayed.ensures.changed;
    }
