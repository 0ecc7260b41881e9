use Rattle.std.proofs.Common.{◌≡◌, ℕ, length, map, refl, ap, subst, sym, ◌∙◌}
use Rattle.std.proofs.lemmas.List.{length-map}
use Rattle.hp_doctor.specs.Explained.{explained}
use Rattle.hp_doctor.specs.Linted.{Tells}
use Rattle.hp_doctor.specs.Texts.{texts_of}
use Rattle.hp_out.specs.RefusalTexts.{refusal_text}
use Rattle.hp_out.specs.Writing.{sink_run}
use Rattle.hp_out.specs.declared.refusal.Refusal.TheVariants.{NoPair}
use Rattle.hp_syntax.specs.Views.{domain_of, pair_of, problem_of}
use Rattle.hp_syntax.specs.declared.status.Status.TheVariants as status
use Rattle.hp_doctor_tree.specs.TreeTold.{Told, pair_at}
use Rattle.hp_doctor_trace.specs.TraceTold.{Pairless}
use Rattle.hp_doctor_tree.proofs.TreeSteps.{has_numbered, pair_ground}
use Rattle.hp_doctor_trace.proofs.TraceSteps.{tells_accepted}
use Rattle.hp_doctor_trace.proofs.traces.answer_accepted.Goals as goal

pub answer_pair-requires-clause-numbered : goal.answer_pair-requires-clause-numbered
answer_pair-requires-clause-numbered g c =
    has_numbered c.forms_are_numbered.ensures.domain (texts_of c.args.files.now).domain.text
    (domain_of c.args.accepted.now.domain) c.requires.accepted.domain

pub answer_pair-requires-clause-pair : goal.answer_pair-requires-clause-pair
answer_pair-requires-clause-pair g c =
    let number = c.args.asked.now.pair in
    pair_ground c.accepted_pairs_are_ground.ensures (texts_of c.args.files.now) (domain_of c.args.accepted.now.domain)
    (problem_of c.args.accepted.now.problem) c.requires.accepted number (pair_of c.in-Some.pair.now)
    (ap (λ ps. pair_at number (map pair_of ps)) (sym c.as_slice-pairs.ensures.value) ∙ sym c.in-Some.ensures)

pub returns-in-Some-clause-tells : goal.returns-in-Some-clause-tells
returns-in-Some-clause-tells g c =
    let number = c.args.asked.now.pair in
    tells_accepted (texts_of c.args.files.now) c.args.asked.now (domain_of c.args.accepted.now.domain)
    (problem_of c.args.accepted.now.problem) (pair_of c.in-Some.pair.now) c.answer_pair.result _ c.requires.accepted
    (ap (λ ps. pair_at number (map pair_of ps)) (sym c.as_slice-pairs.ensures.value) ∙ sym c.in-Some.ensures)
    c.answer_pair.ensures.tells

pub returns-in-None-clause-tells : goal.returns-in-None-clause-tells
returns-in-None-clause-tells g c =
    let t = texts_of c.args.files.now in
    let number = c.args.asked.now.pair in
    let p = problem_of c.args.accepted.now.problem in
    let run = sink_run (g.K.Sink.faults c.args.out.now) (g.K.Sink.faults c.refuse.new.out)
    (g.K.Sink.bytes c.args.out.now) (g.K.Sink.bytes c.refuse.new.out) in
    let count : length c.as_slice-pairs.result.now ≡ length p.pairs =
    ap length c.as_slice-pairs.ensures.value ∙ sym (length-map c.args.accepted.now.problem.pairs.items pair_of) in
    Told (explained t (refusal_text (NoPair number (length p.pairs))), status.ProblemRefused)
    (Pairless (domain_of c.args.accepted.now.domain) p c.requires.accepted
    (ap (λ ps. pair_at number (map pair_of ps)) (sym c.as_slice-pairs.ensures.value) ∙ sym c.in-None.ensures) refl)
    (subst (λ (n : ℕ). Tells (explained t (refusal_text (NoPair number n)), status.ProblemRefused) c.refuse.result run)
    count c.refuse.ensures.tells)
