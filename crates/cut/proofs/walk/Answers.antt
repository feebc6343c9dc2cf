-- Where a test fails c breaks the law's words for a cut of the recording; the products and sums stay far below a usize.
use Rattle.std.proofs.Common.{◌≡◌, inl, inr, arith}
use Rattle.cut.proofs.ValueLaws.{eight_counts}
use Rattle.cut.proofs.WalkLaws.{turned_none, term_small, product_small, turn, not_cut, unfit, walked}
use Rattle.cut.proofs.walk.Goals as goal
use Rattle.cut.proofs.walk.Goals.{then-m-x-via-then-m-x, then-m-x-via-else-m-x+then-m-gt0, then-n-p, else-n-p}

pub returns-then-n-lt1 : goal.returns-then-n-lt1
returns-then-n-lt1 c = not_cut c.args.full c.args.c (λ d. let h = c.then-n-lt1.either in omega (arith, d.same_n, d.full.some_station, d.full.most_eight))

pub loop-p-init : goal.loop-p-init
loop-p-init c = turned_none _ _ _

pub returns-then-m-x : goal.returns-then-m-x
returns-then-m-x c =
    unfit c.args.full c.args.c c.loop-p.p (omega arith) λ f.
    elim c.then-m-x.branch [
      | then-m-x-via-then-m-x w ↦ omega arith
      | then-m-x-via-else-m-x+then-m-gt0 w ↦ elim w.if-n-p.branch [ then-n-p v ↦ omega (arith, f.beyond) | else-n-p v ↦ omega (arith, f.beyond) ]
    ]

pub overflow_add-events : goal.overflow_add-events
overflow_add-events c = omega arith

pub overflow_mul-rank : goal.overflow_mul-rank
overflow_mul-rank c = omega (arith, term_small c.loop-p.invariant c.from-x.result (omega arith))

pub overflow_add-rank : goal.overflow_add-rank
overflow_add-rank c = omega (arith, term_small c.loop-p.invariant c.from-x.result (omega arith))

pub overflow_mul-size : goal.overflow_mul-size
overflow_mul-size c = omega (arith, product_small c.loop-p.invariant c.from-m.result (omega arith))

pub loop-p-preserved : goal.loop-p-preserved
loop-p-preserved c =
    rw c.min-size.ensures
    (turn c.loop-p.invariant c.from-m.result c.from-x.result (c.from-m.ensures, omega arith) (c.from-x.ensures, omega arith)
    (record { no_above = omega arith; beyond = λ k. elim c.if-m-gt0.either [ inl e ↦ omega arith | inr e ↦ omega arith ] }))

pub returns : goal.returns
returns c =
    let e : c.loop-p.p ≡ 8 = omega arith in
    walked c.args.full c.args.c (omega arith) (omega arith) c.if-c-full.false (eight_counts c.args.full _ c.well_formed.0) (rw e at c.loop-p.invariant)
