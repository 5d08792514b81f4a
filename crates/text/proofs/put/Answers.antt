-- `text::put` meets its contract: the part from the position on is the bytes. Assumes nothing.
use Rattle.std.proofs.Common.{◌≡◌, ◌+◌, ◌-◌, length, refl, arith, append_assoc, drop-drop}
use Rattle.text.specs.Puts.{written}
use Rattle.text.proofs.put.Goals as goal

pub returns : goal.returns
unfolding written
returns c =
    let a = c.args in
    let n = length a.bytes.now in
    let long : a.at + n - a.at ≡ n = omega arith in
    record {
      buffer = rw (c.copy_from_slice.ensures.after, long, drop-drop n a.at a.text.now, append_assoc);
      behind = refl;
      within = c.requires;
    }
