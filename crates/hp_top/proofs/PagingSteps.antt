-- What is told through a page before a sink, told of the sink.
use Rattle.std.proofs.Common.{◌≡◌, ℕ, ◌≤◌, ◌<◌, List, [], length, Option, Result, Ok, Err, arith, refl, sym, subst}
use Rattle.hp_io.specs.Rules.{Rose}
use Rattle.hp_out.specs.Paged.{IsGrown, laid}
use Rattle.hp_out.specs.Writing.{sink_run, Wrote, WrotePrefix}
use Rattle.hp_out.proofs.PagedSteps.{all_behind, part_behind, prefix_behind, proper_behind}
use Rattle.hp_syntax.specs.Report.{Answer}
use Rattle.hp_syntax.specs.declared.status.Status.{Status}
use Rattle.hp_syntax.specs.declared.status.Status.TheVariants as status
use Rattle.hp_telling.specs.declared.halt.Halt.{Halt}
use Rattle.hp_telling.specs.declared.halt.Halt.TheVariants.{NoMemory, Failed}
use Rattle.hp_telling.specs.Telling.{IsTold}
use Rattle.hp_top.specs.Telling.{Tells, Unwritten, WithoutMemory, Written}

-- writing to the page failed: a proper prefix of the text was written to the sink
pub failed_behind : (o : Result Status Halt) (a : Answer) (f g : ℕ) (before after : Option (List ℕ)) (rest : List ℕ)
    → o ≡ Err Failed → IsGrown before after → IsTold a o (sink_run f g before (laid after rest))
    → Tells a status.WriteFault (sink_run f g before after)
failed_behind o a f g before after rest e grown told =
    let t = subst (λ o. IsTold a o (sink_run f g before (laid after rest))) e told in
    Unwritten refl t.0 (proper_behind a.0 rest before after grown t.1)

-- memory was wanting: whatever of the page is written, a prefix of the text was written to the sink
pub wanting_behind : (o : Result Status Halt) (a : Answer) (f g h : ℕ) (before mid after : Option (List ℕ))
    (rest left : List ℕ) → o ≡ Err NoMemory → IsGrown before after → laid after left ≡ laid mid rest
    → IsTold a o (sink_run f g before (laid mid rest)) → Tells a status.NoMemory (sink_run f h before after)
wanting_behind o a f g h before mid after rest left e grown same told =
    let t = subst (λ o. IsTold a o (sink_run f g before (laid mid rest))) e told in
    WithoutMemory refl
    (prefix_behind a.0 left before after grown (subst (WrotePrefix a.0 before) (sym same) t))

-- all was told and the page was written: the text was written to the sink
pub written_behind : (o : Result Status Halt) (s : Status) (a : Answer) (f g h : ℕ)
    (before mid after : Option (List ℕ)) (rest left : List ℕ) → o ≡ Ok s → left ≡ []
    → laid after left ≡ laid mid rest → IsTold a o (sink_run f g before (laid mid rest))
    → Tells a s (sink_run f h before after)
written_behind o s a f g h before mid after rest left e none same told =
    let t = subst (λ o. IsTold a o (sink_run f g before (laid mid rest))) e told in
    Written t.0 (all_behind a.0 left before after none (subst (Wrote a.0 before) (sym same) t.1))

-- all was told and the page couldn't be written: a proper prefix of the text was written to the sink
pub unwritten_behind : (o : Result Status Halt) (s : Status) (a : Answer) (f g h : ℕ)
    (before mid after : Option (List ℕ)) (rest left : List ℕ) → o ≡ Ok s → 0 < length left → f ≤ g → Rose g h
    → IsGrown before after → laid after left ≡ laid mid rest → IsTold a o (sink_run f g before (laid mid rest))
    → Tells a status.WriteFault (sink_run f h before after)
unwritten_behind o s a f g h before mid after rest left e some later rose grown same told =
    let t = subst (λ o. IsTold a o (sink_run f g before (laid mid rest))) e told in
    let rose' : Rose g h = rose in
    Unwritten refl (omega arith)
    (part_behind a.0 left before after some grown (subst (Wrote a.0 before) (sym same) t.1))

-- ---- the sink behind, which is given to the page and back

-- what is told from a page is told from what the sink behind had taken, where nothing stood on the page
pub told_from : (o : Result Status Halt) (a : Answer) (e f g : ℕ) (start before after : Option (List ℕ)) → e ≡ f
    → start ≡ before → IsTold a o (sink_run e g start after) → IsTold a o (sink_run f g before after)
told_from o a e f g start before after same begins told =
    subst (λ b. IsTold a o (sink_run f g b after)) begins
    (subst (λ n. IsTold a o (sink_run n g start after)) same told)

-- what is told to a sink is told to the one that is given back, which is the same
pub told_back : {S : Type 0} (faults : S → ℕ) (bytes : S → Option (List ℕ)) (a : Answer) (s : Status) (f : ℕ)
    (start before : Option (List ℕ)) (x y : S) → before ≡ start → y ≡ x
    → Tells a s (sink_run f (faults x) start (bytes x)) → Tells a s (sink_run f (faults y) before (bytes y))
told_back faults bytes a s f start before x y begins same told =
    subst (λ z. Tells a s (sink_run f (faults z) before (bytes z))) (sym same)
    (subst (λ b. Tells a s (sink_run f (faults x) b (bytes x))) (sym begins) told)
