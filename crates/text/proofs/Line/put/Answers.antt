-- The word is put, then number by number, and the newline behind all.
use mathlib.Core.Path.{◌∙◌}
use mathlib.Core.List.{append-nil}
use native.Mathlib.Omega.{arith}
use Rattle.text.specs.Written.{front_of}
use Rattle.text.proofs.TextLaws.{written_length, length_line_of, length_word, item_fits, line_then, newline_fits, line_ended}
use Rattle.text.proofs.Line.put.Goals as goal

pub put_bytes-next-requires : goal.put_bytes-next-requires
put_bytes-next-requires g c =
    let a = c.args.self in
    omega (arith, length_line_of g.T.Integer.text a.word.now a.numbers.now, length_word g.T.Integer.text a.word.now a.numbers.now)

pub loop-x-init : goal.loop-x-init
unfolding front_of
loop-x-init g c = rw append-nil c.put_bytes-next.ensures

pub put_bytes-next-requires-in-loop-x : goal.put_bytes-next-requires-in-loop-x
put_bytes-next-requires-in-loop-x g c =
    omega (arith, item_fits g.T.Integer.text _ _ _ _ c.loop-x-test.true c.x-item.is c.loop-x.invariant c.requires)

pub put_bytes-next-requires-in-loop-x-2 : goal.put_bytes-next-requires-in-loop-x-2
put_bytes-next-requires-in-loop-x-2 g c =
    let h = item_fits g.T.Integer.text _ _ _ _ c.loop-x-test.true c.x-item.is c.loop-x.invariant c.requires in
    rw (c.as_bytes.ensures.value ∙ c.format.ensures.text) (omega (arith, h, written_length c.put_bytes-next-in-loop-x.ensures))

pub loop-x-preserved : goal.loop-x-preserved
loop-x-preserved g c =
    line_then g.T.Integer.text _ _ _ _ c.loop-x-test.true c.x-item.is c.loop-x.invariant c.put_bytes-next-in-loop-x.ensures
    (rw (c.as_bytes.ensures.value ∙ c.format.ensures.text) at c.put_bytes-next-in-loop-x-2.ensures)

pub put_bytes-requires : goal.put_bytes-requires
put_bytes-requires g c = newline_fits _ _ _ _ c.loop-x-test.false c.loop-x.invariant c.requires

pub returns : goal.returns
returns g c = line_ended _ _ _ _ c.loop-x-test.false c.loop-x.invariant c.put_bytes.ensures
