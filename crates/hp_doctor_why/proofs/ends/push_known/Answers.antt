use Rattle.std.proofs.Common.{◌≡◌, ◌++◌, ℕ, List, OnOk, map, ap, subst, ◌∙◌}
use Rattle.std.specs.List.{flat_map}
use Rattle.hp_syntax.specs.declared.pattern.Ground.{Ground}
use Rattle.hp_syntax.specs.GroundViews.{ground_of}
use Rattle.hp_syntax.specs.Views.{domain_of}
use Rattle.hp_doctor.specs.Texts.{texts_of}
use Rattle.hp_obstacles.specs.Obstacles.{Stuck, stuck_of}
use Rattle.hp_doctor_why.specs.Said.{steps_line, stuck_text}
use Rattle.hp_doctor_why.proofs.StepSteps.{put_both}
use Rattle.hp_doctor_why.proofs.ends.push_known.Goals as goal

pub returns : goal.returns
returns c =
    let out = c.args.out.now.items in
    let mid = c.push_steps.new.out.items in
    let text : List Ground → Stuck → List ℕ = λ gs. stuck_text (texts_of c.args.files.now) (domain_of c.args.domain.now) (map ground_of gs) in
    let put = subst (λ xs. OnOk c.push_all_stuck.result (c.push_all_stuck.new.out.items
    ≡ mid ++ flat_map (text c.as_slice-guards.result.now) (map stuck_of xs))) c.as_slice-2.ensures.value
    c.push_all_stuck.ensures in
    put_both c.push_all_stuck.result _ _ out mid c.push_all_stuck.new.out.items
    (c.in_ok-push_steps.ensures ∙ ap (λ xs. out ++ steps_line (map ground_of xs)) c.as_slice.ensures.value)
    (subst (λ gs. OnOk c.push_all_stuck.result (c.push_all_stuck.new.out.items
    ≡ mid ++ flat_map (text gs) (map stuck_of c.args.reason.now.tasks.items))) c.as_slice-guards.ensures.value put)
