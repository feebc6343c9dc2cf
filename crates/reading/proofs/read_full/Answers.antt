use Rattle.std.proofs.Common.{◌≡◌, ℕ, ◌+◌, ◌-◌, ◌≤◌, List, ◌++◌, rules, length, take, drop, sym, ap, ◌∙◌, subst, le_refl, drop_at, length-take-le}
use Rattle.std.proofs.lemmas.Slice.{take-put_mid_below}
use Rattle.std.specs.Io.KnownBytes.{Consumes}
use Rattle.std.proofs.KnownBytes.{Consumes-trans}
use borrow.Rule.Slice.PartMut.{put_mid, post_of}
use lib.Seq.{take-add, take-append-le}
use Rattle.reading.proofs.read_full.Goals as goal

-- What a read put behind the first a bytes of the room stands behind them.
read_behind : (a n : ℕ) (xs ys : List ℕ) → a ≤ length xs → n ≤ length ys → take a xs ++ take n ys ≡ take (a + n) (put_mid a (length xs - a) xs ys)
read_behind a n xs ys within fits =
    let all = put_mid a (length xs - a) xs ys in
    let front : take a all ≡ take a xs = take-put_mid_below _ _ _ _ _ (le_refl _) within in
    let back : take n (drop a all) ≡ take n ys = ap (take n) (drop_at (take a xs) (ys ++ post_of a (length xs - a) xs) a (length-take-le a xs within)) ∙ take-append-le n ys _ fits in
    sym (take-add a n all ∙ ap (λ l. l ++ take n (drop a all)) front ∙ ap (λ l. take a xs ++ l) back)

pub loop-filled-preserved : goal.loop-filled-preserved
loop-filled-preserved g c =
    let before = c.loop-filled.invariant in
    let read = c.in_ok-n.ensures in
    (search rules, search rules, subst (Consumes _ _) (read_behind _ _ _ _ before.0 read.bound.0) (Consumes-trans _ _ _ _ _ before.2 read.bytes.0))
