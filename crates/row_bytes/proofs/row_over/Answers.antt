-- `row_bytes::row_over` meets its contract. Assumes nothing.
use Rattle.row_bytes.specs.HostRow.{shown_fits, state_same}
use Rattle.row_bytes.proofs.row_over.Goals as goal

pub ruled-requires : goal.ruled-requires
ruled-requires c = shown_fits c.row-shown.ensures

pub returns : goal.returns
returns c = record { verdict = _; outcome = state_same c.row-shown.ensures; numbered = c.ruled.ensures c.args.n }
