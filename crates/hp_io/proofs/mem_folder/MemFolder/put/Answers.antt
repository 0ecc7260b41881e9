use Rattle.std.proofs.Common.{ap, Some, ◌∙◌, refl}
use Rattle.hp_io.proofs.FileLemmas.{replaced, replaced_others, pushed, pushed_others}
use Rattle.hp_io.proofs.mem_folder.MemFolder.put.Goals as goal

pub returns-in-Some-clause-set : goal.returns-in-Some-clause-set
returns-in-Some-clause-set c =
    let found = replaced _ c.args.self.now.files.items _ c.in-Some.index c.index_mut.result.now _
    c.as_slice.ensures.value c.in-Some.ensures.found c.index_mut.ensures.value refl in
    found ∙ ap Some c.in_ok-bytes.ensures.items

pub returns-in-Some-clause-others : goal.returns-in-Some-clause-others
returns-in-Some-clause-others c =
    replaced_others _ c.args.self.now.files.items _ c.in-Some.index c.index_mut.result.now _
    c.as_slice.ensures.value c.in-Some.ensures.found c.index_mut.ensures.value refl

pub returns-in_ok-push-in-None-clause-set : goal.returns-in_ok-push-in-None-clause-set
returns-in_ok-push-in-None-clause-set c =
    let found = pushed _ c.args.self.now.files.items _ _
    record { name = c.in_ok-name-in-None.name; bytes = c.in_ok-bytes.bytes } c.as_slice.ensures.value
    c.in-None.ensures.none c.in_ok-push-in-None.ensures.items c.in_ok-name-in-None.ensures.ok in
    found ∙ ap Some c.in_ok-bytes.ensures.items

pub returns-in_ok-push-in-None-clause-others : goal.returns-in_ok-push-in-None-clause-others
returns-in_ok-push-in-None-clause-others c =
    pushed_others _ _ _ record { name = c.in_ok-name-in-None.name; bytes = c.in_ok-bytes.bytes }
    c.in_ok-push-in-None.ensures.items c.in_ok-name-in-None.ensures.ok
