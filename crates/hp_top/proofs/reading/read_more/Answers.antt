use Rattle.std.proofs.Common.{◌≡◌, ◌≤◌, ◌++◌, take, arith}
use Rattle.std.proofs.lemmas.Grind.{common_steps}
use Rattle.hp_top.proofs.ReadingSteps.{grown_by, taken_up_to, none_taken, whole_prefix}
use Rattle.hp_top.proofs.reading.read_more.Goals as goal

pub slice_bounds-read-end : goal.slice_bounds-read-end
slice_bounds-read-end g c =
    let few : c.min-room.result ≤ 8192 = omega arith in whole_prefix c.min-room.result _ few

pub slice_bounds-buffer-end-in-Ok : goal.slice_bounds-buffer-end-in-Ok
slice_bounds-buffer-end-in-Ok g c = grind (arith, common_steps)

pub slice_bounds-extend_from_slice-end : goal.slice_bounds-extend_from_slice-end
slice_bounds-extend_from_slice-end g c = whole_prefix c.in-Ok.count _ (grind (arith, common_steps))

pub returns-in-Ok-extend_from_slice-clause-length : goal.returns-in-Ok-extend_from_slice-clause-length
returns-in-Ok-extend_from_slice-clause-length g c = (grind (arith, common_steps), grind (arith, common_steps))

-- a read that failed took nothing
pub returns-in-Err-clause-takes : goal.returns-in-Err-clause-takes
returns-in-Err-clause-takes g c = none_taken c.args.room _ _ c.in-Err.ensures.err

-- bytes that were read were taken
pub returns-in-Ok-extend_from_slice-clause-takes : goal.returns-in-Ok-extend_from_slice-clause-takes
returns-in-Ok-extend_from_slice-clause-takes g c =
    let few : c.in-Ok.count ≤ c.args.room = grind (arith, common_steps) in
    taken_up_to c.in-Ok.count _ c.args.room c.read.new.buf _ _ c.in-Ok.ensures.taken few

-- it was taken even where it couldn't be kept
pub returns-in-Err-extend_from_slice-clause-takes : goal.returns-in-Err-extend_from_slice-clause-takes
returns-in-Err-extend_from_slice-clause-takes g c =
    let few : c.in-Ok.count ≤ c.args.room = grind (arith, common_steps) in
    taken_up_to c.in-Ok.count _ c.args.room c.read.new.buf _ _ c.in-Ok.ensures.taken few

-- it was put behind what was read before
pub returns-in-Ok-extend_from_slice-clause-grown : goal.returns-in-Ok-extend_from_slice-clause-grown
returns-in-Ok-extend_from_slice-clause-grown g c =
    let behind : c.extend_from_slice.new.self.items ≡ c.args.bytes.now.items ++ take c.in-Ok.count c.read.new.buf =
    grind (arith, common_steps) in
    grown_by c.in-Ok.count _ c.read.new.buf _ _ _ _ c.in-Ok.ensures.taken (grind (arith, common_steps)) behind
