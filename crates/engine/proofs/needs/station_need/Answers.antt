-- Each way out is one case of the cell: the start, the own place, another place.
use mathlib.Core.Path.{◌≡◌, ◌∙◌}
use Prim.Native.Nat.{◌+◌, ◌-◌, ◌*◌}
use Rattle.std.proofs.Common.{rules}
use Rattle.cuts.specs.Cut.{at}
use Rattle.engine.proofs.PrepareLaws.{need_start, need_own, need_other}
use Rattle.engine.proofs.needs.station_need.Goals.{then-j-lt8-via-then-j-lt8, then-j-lt8-via-else-j-lt8+then-j-p}
use Rattle.engine.proofs.needs.station_need.Goals as goal

pub returns-then-j-lt8 : goal.returns-then-j-lt8
returns-then-j-lt8 c =
    elim c.then-j-lt8.branch [
      | then-j-lt8-via-then-j-lt8 w ↦ need_start _ _ _ _ w.if-j-lt8.true
      | then-j-lt8-via-else-j-lt8+then-j-p w ↦ need_own _ _ _ _ w.if-j-lt8.false w.if-j-p.true
    ]

pub returns : goal.returns
returns c =
    let e : c.unwrap_or.result ≡ at c.args.stamps.now (8 * c.args.first + (c.args.j - 8)) = search rules in
    e ∙ need_other _ _ _ _ c.if-j-lt8.false c.if-j-p.false
