-- The tests before the records, in their order: how many stations, the lists' lengths, the start levels.
use Rattle.std.proofs.Common.{◌≡◌, ◌∙◌, Err, sym, ap, arith, length, get_or, pos, rules, tests}
use Rattle.std.proofs.lemmas.Grind.{common_steps}
use Rattle.std.proofs.lemmas.Iterator.{YieldsList-from_slice}
use Rattle.std.proofs.lemmas.Iterator.Search.{all_from_yields_List}
use Rattle.std.specs.Prelude.{is_some}
use Rattle.levels.specs.Level.{is_level, field_of}
use Rattle.cuts.specs.Below.{every, sum_to}
use Rattle.cuts.specs.Cut.{at}
use Rattle.writer.specs.Write.{handed, first_given}
use Rattle.writer.proofs.WriterLaws.{all_levels}
use Rattle.writer.proofs.CheckedGiven.{refused_stations, refused_lengths, refused_level, whole_fine}
use Rattle.writer.proofs.Given.check_lists.Goals.{After-all}
use Rattle.writer.proofs.Given.check_lists.Goals as goal

all : (c : After-all) → c.all.result ≡ every (length c.args.self.now.starts.now) (λ p. is_level (get_or c.args.self.now.starts.now p (pos 0)))
all c =
    all_from_yields_List (λ v. is_some (field_of v)) _ _ c.all.result c.all.ensures.ran (YieldsList-from_slice c.args.self.now.starts.now cc) (λ x b q k. search (rules, tests))
    ∙ all_levels c.args.self.now.starts.now

pub returns-then-not-contains-clause-said : goal.returns-then-not-contains-clause-said
returns-then-not-contains-clause-said c = refused_stations (handed c.args.self.now) (λ h l. grind (arith, common_steps))

pub check_lengths-requires : goal.check_lengths-requires
unfolding first_given
check_lengths-requires c =
    let (x, y) = c.firsts_of.ensures.sums c.from.result (grind (arith, common_steps)) in
    (y, x ∙ ap (λ i. sum_to i (at c.args.self.now.counts.now)) c.from.ensures)

pub returns-in_err-check_lengths-clause-said : goal.returns-in_err-check_lengths-clause-said
returns-in_err-check_lengths-clause-said c =
    let r : c.from_residual.result ≡ Err c.in_err-check_lengths.field-0.0 = search rules in
    r ∙ refused_lengths (handed c.args.self.now) (grind (arith, common_steps)) (search rules) _ (sym (c.in_err-check_lengths.ensures))

pub returns-then-not-all-clause-said : goal.returns-then-not-all-clause-said
returns-then-not-all-clause-said c =
    refused_level (handed c.args.self.now) (search rules) (search rules) (sym (c.in_ok-check_lengths.ensures)) _ (all (goal.at.returns-then-not-all-clause-said c).After-all) c.if-not-all.true

pub returns-clause-said : goal.returns-clause-said
returns-clause-said c =
    whole_fine (handed c.args.self.now) (search rules) (search rules) (sym (c.in_ok-check_lengths.ensures)) _ (all (goal.at.returns-clause-said c).After-all) c.if-not-all.false
