use Rattle.std.proofs.Common.{◌≡◌, ◌≤◌, ◌++◌, take, arith}
use Rattle.std.proofs.lemmas.Grind.{common_steps}
use Rattle.hp_doctor.proofs.LoadingSteps.{grown_by, whole_prefix}
use Rattle.hp_doctor.proofs.loading.read_more.Goals as goal

pub slice_bounds-read-end : goal.slice_bounds-read-end
slice_bounds-read-end g c =
    let few : c.min-room.result ≤ 8192 = omega arith in whole_prefix c.min-room.result _ few

pub slice_bounds-buffer-end-in-Ok : goal.slice_bounds-buffer-end-in-Ok
slice_bounds-buffer-end-in-Ok g c = grind (arith, common_steps)

pub slice_bounds-extend_from_slice-end : goal.slice_bounds-extend_from_slice-end
slice_bounds-extend_from_slice-end g c = whole_prefix c.in-Ok.count _ (grind (arith, common_steps))

pub returns-in-Ok-extend_from_slice-clause-length : goal.returns-in-Ok-extend_from_slice-clause-length
returns-in-Ok-extend_from_slice-clause-length g c = (grind (arith, common_steps), grind (arith, common_steps))

-- it was put behind what was read before
pub returns-in-Ok-extend_from_slice-clause-grown : goal.returns-in-Ok-extend_from_slice-clause-grown
returns-in-Ok-extend_from_slice-clause-grown g c =
    let behind : c.extend_from_slice.new.self.items ≡ c.args.bytes.now.items ++ take c.in-Ok.count c.read.new.buf =
    grind (arith, common_steps) in
    grown_by c.in-Ok.count _ c.read.new.buf _ _ _ _ c.in-Ok.ensures.taken (grind (arith, common_steps)) behind
