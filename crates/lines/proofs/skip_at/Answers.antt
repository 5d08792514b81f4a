-- `lines::skip_at` meets its contract: the first line feed from the offset on, if there is one. Assumes nothing.
use Rattle.std.specs.Prelude.{◌≡◌, ◌≢◌, length}
use Rattle.std.specs.List.{slice_range}
use Rattle.std.proofs.lemmas.Iterator.{IsFirst-from_position, YieldsList-from_slice}
use Rattle.lines.specs.Fields.{FirstFeed, skip_found, skip_none}
use Rattle.lines.proofs.skip_at.Goals.{After-position}
use Rattle.lines.proofs.skip_at.Goals as goal
use borrow.Author.Tests.{tests}
use Rattle.std.proofs.Common.{rules}

found : (c : After-position) → FirstFeed (slice_range c.args.bytes.now c.args.from (length c.args.bytes.now)) c.position.result
found c = IsFirst-from_position _ _ _ (λ x. x ≡ 10) (λ x. x ≢ 10) c.position.ensures.ran (YieldsList-from_slice _ c.iter.ensures.rest) (λ x q k. search (rules, tests)) (λ x q k. search (rules, tests))

pub returns-in_err-skipped : goal.returns-in_err-skipped
returns-in_err-skipped c = rw c.from_residual.ensures (skip_none c.args.bytes.now c.args.from (rw c.in_err-skipped.was at (found (goal.at.returns-in_err-skipped c).After-position)))

pub returns : goal.returns
returns c = skip_found c.in_ok-skipped.skipped c.requires (rw c.in_ok-skipped.was at (found (goal.at.returns c).After-position))
