-- The pairs are the lists' lengths, so each search is one of the two tests.
use Rattle.std.proofs.Common.{◌≡◌, ◌∙◌, not, ltb, rules, tests}
use Rattle.std.proofs.lemmas.Iterator.{YieldsList-from_slice}
use Rattle.std.proofs.lemmas.Iterator.Search.{any_from_yields_List}
use Rattle.writer.specs.Write.{handed, long_enough, not_longer}
use Rattle.writer.proofs.WriterLaws.{lengths_of, some_short, some_longer, lengths_short, lengths_longer, lengths_just}
use Rattle.writer.proofs.Given.check_lengths.Goals.{After-any, After-any-2}
use Rattle.writer.proofs.Given.check_lengths.Goals as goal

short : (c : After-any) → c.any.result ≡ not (long_enough (handed c.args.self.now))
short c =
    let g = handed c.args.self.now in
    any_from_yields_List (λ l. ltb l.1 l.0) _ _ c.any.result c.any.ensures.ran (YieldsList-from_slice (lengths_of g c.args.total) cc) (λ x b q k. search (rules, tests))
    ∙ some_short g c.args.total c.requires.1

longer : (c : After-any-2) → c.any-2.result ≡ not (not_longer (handed c.args.self.now))
longer c =
    let g = handed c.args.self.now in
    any_from_yields_List (λ l. ltb l.0 l.1) _ _ c.any-2.result c.any-2.ensures.ran (YieldsList-from_slice (lengths_of g c.args.total) cc) (λ x b q k. search (rules, tests))
    ∙ some_longer g c.args.total c.requires.1

pub returns-then-any : goal.returns-then-any
returns-then-any c = let a = (goal.at.returns-then-any c).After-any in
    lengths_short (handed c.args.self.now) _ (short a) c.if-any.true

pub returns-then-any-2 : goal.returns-then-any-2
returns-then-any-2 c =
    let a = goal.at.returns-then-any-2 c in
    lengths_longer (handed c.args.self.now) _ (short a.After-any) c.if-any.false _ (longer a.After-any-2) c.if-any-2.true

pub returns : goal.returns
returns c =
    let a = goal.at.returns c in
    lengths_just (handed c.args.self.now) _ (short a.After-any) c.if-any.false _ (longer a.After-any-2) c.if-any-2.false
