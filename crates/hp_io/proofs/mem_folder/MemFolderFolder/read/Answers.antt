use Rattle.std.proofs.Common.{rules, ◌≡◌, List, Some, slice_get, ap, sym, ◌∙◌}
use Rattle.hp_io.specs.declared.mem_folder.File.{File}
use Rattle.hp_io.specs.Files.{bytes_at, input_of, rest_of, rest_from}
use Rattle.hp_io.proofs.RuleLemmas.{taken_at}
use Rattle.hp_io.proofs.mem_folder.MemFolderFolder.read.Goals as goal

pub returns-clause-taken : goal.returns-clause-taken
returns-clause-taken c =
    let which = c.args.which in
    let files = c.args.self.now.files.items in
    let place = c.unwrap-place.result in
    let new = c.set_input.new.self in
    let called : c.next_fails.new.self.files.items ≡ files = ap (λ v. v.items) c.next_fails.ensures.files in
    let kept : new.files.items ≡ files = ap (λ v. v.items) c.set_input.ensures.files ∙ called in
    let input = sym c.if-next_fails.ensures.calm ∙ sym c.input-input.ensures in
    let before : rest_of c.args.self.now which ≡ rest_from files (Some place)
    = ap (rest_from files) (ap (λ i. i.place) input ∙ c.unwrap-place.ensures) in
    let here = ap (λ (s : List File). bytes_at (slice_get s place.file) place.at)
    (c.as_slice.ensures.value ∙ called) in
    let after = ap (λ (s : List File). rest_from s (input_of new which).place) kept
    ∙ ap (λ i. rest_from files i.place) c.set_input.ensures.set in
    taken_at files place _ _ _ c.rest_at.result.now _ _ before (c.rest_at.ensures.rest ∙ here)
    c.copy_prefix-count.ensures.count c.copy_prefix-count.ensures.prefix after

-- a read that fails takes nothing
pub returns-then-next_fails-clause-begun : goal.returns-then-next_fails-clause-begun
returns-then-next_fails-clause-begun c = search rules

pub returns-then-next_fails-clause-err : goal.returns-then-next_fails-clause-err
returns-then-next_fails-clause-err c = search rules
