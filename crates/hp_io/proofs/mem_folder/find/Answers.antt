use Rattle.std.proofs.Common.{◌≡◌, ◌<◌, List, ℕ, false, true, length, bytes_eq, ap, sym, arith, add-one, ◌∙◌}
use Rattle.hp_io.specs.Files.{has_name}
use Rattle.hp_io.proofs.FileLemmas.{named_here, none_more}
use Rattle.hp_io.proofs.mem_folder.find.Goals as goal

pub loop-i-preserved : goal.loop-i-preserved
loop-i-preserved c =
    let files = c.args.files.now in
    let n = c.args.name.now in
    let within : c.loop-i.i < length files = omega arith in
    let other : has_name n c.index-files-i.result ≡ false
    = ap (λ (b : List ℕ). bytes_eq b n) (sym c.as_str.ensures.value) ∙ (sym c.eq.ensures ∙ c.if-eq.false) in
    let here = named_here _ n c.loop-i.i c.index-files-i.result within c.index-files-i.is in
    rw add-one (none_more files n c.loop-i.i c.loop-i.invariant (here ∙ other))

pub returns-then-eq-clause-found : goal.returns-then-eq-clause-found
returns-then-eq-clause-found c =
    let n = c.args.name.now in
    let within : c.loop-i.i < length c.args.files.now = omega arith in
    let named : has_name n c.index-files-i.result ≡ true
    = ap (λ (b : List ℕ). bytes_eq b n) (sym c.as_str.ensures.value) ∙ (sym c.eq.ensures ∙ c.if-eq.true) in
    let here = named_here _ n c.loop-i.i c.index-files-i.result within c.index-files-i.is in
    (within, c.loop-i.invariant, here ∙ named)
