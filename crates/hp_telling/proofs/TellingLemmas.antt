-- A stop of the telling of a text is one of a longer text, and what is told of an answer.
use Rattle.std.proofs.Common.{◌≡◌, ℕ, ◌≤◌, List, ◌++◌, Option, Result, Ok, Err, OnOk, IfOk, IfErr, arith}
use Rattle.hp_io.specs.Rules.{Rose}
use Rattle.hp_out.specs.Writing.{SinkRun, sink_run, Wrote}
use Rattle.hp_out.proofs.WritingLemmas.{prefix_longer, proper_longer, prefix_after, proper_after}
use Rattle.hp_out.proofs.WriteSteps.{wrote_both}
use Rattle.hp_syntax.specs.declared.status.Status.{Status}
use Rattle.hp_syntax.specs.Report.{Answer, behind}
use Rattle.hp_telling.specs.declared.halt.Halt.{Halt}
use Rattle.hp_telling.specs.declared.halt.Halt.TheVariants.{NoMemory, Failed}
use Rattle.hp_telling.specs.Telling.{Halts, IsTold}

on_ok_weaker : {A E : Type 0} (r : Result A E) (P Q : Type 0) → OnOk r P → (P → Q) → OnOk r Q
on_ok_weaker (Ok x) P Q h f = f h
on_ok_weaker (Err e) P Q h f = tt

if_err_weaker : {A E : Type 0} (r : Result A E) (P Q : E → Type 0) → IfErr r P → ((e : E) → P e → Q e) → IfErr r Q
if_err_weaker (Ok x) P Q h f = tt
if_err_weaker (Err e) P Q h f = f e h

-- a stop of the telling of a text is one of every text that goes on from it
pub halts_longer : (h : Halt) (x y : List ℕ) (r : SinkRun) → Halts h x r → Halts h (x ++ y) r
halts_longer NoMemory x y r w = prefix_longer x y r.before r.after w
halts_longer Failed x y r w = (w.0, proper_longer x y r.before r.after w.1)

-- a stop of the telling of a text is one of a text that was begun by another
pub halts_after : (h : Halt) (x y : List ℕ) (f g k : ℕ) (a b c : Option (List ℕ)) → f ≤ g → Wrote x a b
    → Halts h y (sink_run g k b c) → Halts h (x ++ y) (sink_run f k a c)
halts_after NoMemory x y f g k a b c e w h = prefix_after x y a b c w h
halts_after Failed x y f g k a b c e w h =
    let rose : Rose g k = h.0 in (omega arith, proper_after x y a b c w h.1)

-- a call behind a text that was written writes both texts, or stops in them
module _ {A : Type 0} (r : Result A Halt) (x y : List ℕ) (f g k : ℕ) (a b c : Option (List ℕ)) (w : Wrote x a b) where
  pub ok_after : OnOk r (Wrote y b c) → OnOk r (Wrote (x ++ y) a c)
  ok_after h = on_ok_weaker r _ _ h (λ v. wrote_both x y a b c w v)

  pub err_after : f ≤ g → IfErr r (λ h. Halts h y (sink_run g k b c))
      → IfErr r (λ h. Halts h (x ++ y) (sink_run f k a c))
  err_after e h = if_err_weaker r _ _ h (λ t v. halts_after t x y f g k a b c e w v)

-- ---- answers

-- an answer that was written with its status, or stopped, was told
pub told_by_parts : (a : Answer) (o : Result Status Halt) (r : SinkRun) → OnOk o (Wrote a.0 r.before r.after)
    → IfOk o (λ s. s ≡ a.1) → IfErr o (λ h. Halts h a.0 r) → IsTold a o r
told_by_parts a (Ok s) r w e h = (e, w)
told_by_parts a (Err halt) r w e h = h

-- and the parts of an answer that was told
pub parts_told : (a : Answer) (o : Result Status Halt) (r : SinkRun) → IsTold a o r
    → OnOk o (Wrote a.0 r.before r.after) × IfOk o (λ s. s ≡ a.1) × IfErr o (λ h. Halts h a.0 r)
parts_told a (Ok s) r h = (h.1, h.0, tt)
parts_told a (Err halt) r h = (tt, tt, h)

-- an answer that is told behind a text is told with that text before it
pub told_behind : (x : List ℕ) (a : Answer) (o : Result Status Halt) (f g k : ℕ) (old mid new : Option (List ℕ)) → f ≤ g
    → Wrote x old mid → IsTold a o (sink_run g k mid new) → IsTold (behind x a) o (sink_run f k old new)
told_behind x a (Ok s) f g k old mid new l w h = (h.0, wrote_both x a.0 old mid new w h.1)
told_behind x a (Err halt) f g k old mid new l w h = halts_after halt x a.0 f g k old mid new l w h
