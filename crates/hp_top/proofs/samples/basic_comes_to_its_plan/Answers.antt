use Rattle.std.proofs.Common.{refl}
use Rattle.hp_top.proofs.SampleReads.{the_samples, basic_comes, swap_is_read, empty_is_read}
use Rattle.hp_top.proofs.samples.basic_comes_to_its_plan.Goals as goal

pub returns-clause-whole : goal.returns-clause-whole
unfolding the_samples
returns-clause-whole c =
    let spelled = c.samples_are_spelled.ensures in
    basic_comes 5 10 refl spelled.basic (swap_is_read spelled.swap) refl

pub returns-clause-stopped : goal.returns-clause-stopped
unfolding the_samples
returns-clause-stopped c =
    let spelled = c.samples_are_spelled.ensures in
    basic_comes 1 10 refl spelled.basic (swap_is_read spelled.swap) refl

pub returns-clause-enough : goal.returns-clause-enough
unfolding the_samples
returns-clause-enough c =
    let spelled = c.samples_are_spelled.ensures in
    basic_comes 5 3 refl spelled.basic (swap_is_read spelled.swap) refl

pub returns-clause-cut : goal.returns-clause-cut
unfolding the_samples
returns-clause-cut c =
    let spelled = c.samples_are_spelled.ensures in
    basic_comes 5 2 refl spelled.basic (swap_is_read spelled.swap) refl

pub returns-clause-empty : goal.returns-clause-empty
unfolding the_samples
returns-clause-empty c =
    let spelled = c.samples_are_spelled.ensures in
    basic_comes 5 0 refl spelled.basic (empty_is_read spelled.empty) refl
