-- The telling of a walk, one visit after the other.
use Rattle.std.proofs.Common.{◌≡◌, ℕ, ◌+◌, ◌^◌, ◌≤◌, ◌<◌, Bool, true, false, cond, nat_le, List, [], ◌∷◌, Option, Result, Err, refl, ap, sym, subst, append_assoc, append-nil, arith}
use Rattle.std.proofs.lemmas.Bool.Decides.{nat_tests}
use Rattle.hp_net.specs.Standings.{Standing}
use Rattle.hp_out.specs.Endings.{ending_of}
use Rattle.hp_out.specs.Writing.{SinkRun, sink_run, Wrote}
use Rattle.hp_out.specs.declared.ending.Ending.TheVariants as endings
use Rattle.hp_out.proofs.WritingLemmas.{nothing_written, wrote_nothing}
use Rattle.hp_passes.specs.Passing.{Passes, AtEnd, GoesOn, LeavesOut, Ends, Stops, Between, Within, AfterOne, AfterPart}
use Rattle.hp_passes.specs.declared.passing.Stop.{Stop}
use Rattle.hp_passes.specs.declared.passing.Stop.TheVariants as stops
use Rattle.hp_passes.specs.declared.passing.Turn.{Turn}
use Rattle.hp_passes.specs.declared.passing.Turn.TheVariants.{On, Past, Last}
use Rattle.hp_syntax.specs.declared.status.Status.{Status}
use Rattle.hp_syntax.specs.Report.{Answer, AtFault, Ending, Stopped, answer_at, behind, end_of, ended, ending_text, plan_texts, quiet_ending, report, status_of, tally}
use Rattle.hp_syntax.specs.Walk.{Node, Sight, Visit, Did, Plan, CutHere, FaultHere, count_told, visit}
use Rattle.hp_telling.specs.declared.halt.Halt.{Halt}
use Rattle.hp_telling.specs.declared.halt.Halt.TheVariants.{NoMemory}
use Rattle.hp_telling.specs.declared.planning.Telling.{Telling}
use Rattle.hp_telling.specs.Telling.{Halts, IsTold, StopsAt, Tells, is_last, next_number, telling}
use Rattle.hp_telling.proofs.ReportLemmas.{ending_saturates}
use Rattle.hp_telling.proofs.TellingLemmas.{halts_longer, told_behind}

-- after so many decompositions fewer plans were told than are asked, and the ending is that of a walk without a fault
pub record IsReady (s : Telling) (n : ℕ) : Type 0 where
  pub fewer : s.progress.plans < s.plans
  pub small : s.plans < 2 ^ 64
  pub counted : s.progress.expansions ≡ count_told n
  pub quiet : ending_of s.ending ≡ quiet_ending s.progress.is_cut

-- what is left to tell of visits after so many decompositions, and where none is left
abbrev pub left_of : Telling → ℕ → List Visit → Answer
left_of s n vs = report (telling s.detail) s.plans (tally s.progress.plans n s.progress.is_cut) vs

abbrev pub closing : Telling → Answer
closing s = answer_at [] (ended (ending_of s.ending) (tally s.progress.plans s.progress.expansions s.progress.is_cut))

-- ---- one visit

-- a text of an answer was written, which leaves another answer
record Leaves (a b : Answer) (r : SinkRun) : Type 0 where
  text : List ℕ
  written : Wrote text r.before r.after
  rest : a ≡ behind text b

-- nothing was written, and the answer is the same
silent : (a b : Answer) (r : SinkRun) → r.after ≡ r.before → a ≡ b → Leaves a b r
silent a b r e f = record {
  text = [];
  written = subst (Wrote [] r.before) (sym e) (wrote_nothing r.before);
  rest = f;
}

-- what was left is told where what is left then is
told_after : (a b : Answer) (r : SinkRun) (o : Result Status Halt) (g k : ℕ) (new : Option (List ℕ))
    → r.faults_before ≤ g → Leaves a b r → IsTold b o (sink_run g k r.after new)
    → IsTold a o (sink_run r.faults_before k r.before new)
told_after a b r o g k new l w h =
    subst (λ (x : Answer). IsTold x o (sink_run r.faults_before k r.before new)) (sym w.rest)
    (told_behind w.text b o r.faults_before g k r.before r.after new l w.written h)

-- after a visit the telling goes on with the others, or ends
abbrev Goes : Telling → ℕ → Visit → List Visit → Turn → Telling → SinkRun → Type 0
Goes s n v vs On t r = (m : ℕ) × Leaves (left_of s n (v ∷ vs)) (left_of t m vs) r × IsReady t m
Goes s n v vs Past t r = ⊥
Goes s n v vs Last t r = Leaves (left_of s n (v ∷ vs)) (closing t) r

module _ (s : Telling) (n : ℕ) (h : IsReady s n) where
  -- the count is told alike where it stands still at its end
  ended_alike : (text : List ℕ) (x : Ending) (p : ℕ)
      → answer_at text (ended x (tally p n s.progress.is_cut))
      ≡ answer_at text (ended x (tally p s.progress.expansions s.progress.is_cut))
  ended_alike text x p = rw (h.counted, ending_saturates x p n) refl

  -- the number of the next plan is told exactly
  next_is : s.progress.plans + 1 ≡ next_number s
  next_is = omega (arith, h.fewer, h.small)

  -- a plan was told, and it is the last that is asked or it isn't
  plan_told : (q : List ℕ) (z : Node) (vs : List Visit) (r : SinkRun) (i : ℕ) → s.progress.plans + 1 ≡ i
      → Wrote (telling s.detail i (visit q z Plan)) r.before r.after → (b : Bool) → nat_le s.plans i ≡ b
      → Goes s n (visit q z Plan) vs (cond b Last On) (record s {
        progress = record s.progress { plans = i };
        ending = cond b endings.Stopped s.ending;
      }) r
  plan_told q z vs r i e w true l =
      let text = telling s.detail i (visit q z Plan) in
      record { text = text; written = w; rest = rw (e, l, append-nil text) (ended_alike text Stopped i) }
  plan_told q z vs r i e w false l =
      let text = telling s.detail i (visit q z Plan) in
      let x = end_of s.plans (tally i n s.progress.is_cut) vs in (
        n,
        record {
          text = text;
          written = w;
          rest =
              rw (e, l)
              (ap (λ t. (t, status_of x.ending x.tally.plans))
              (append_assoc text (plan_texts (telling s.detail) s.plans i vs)
              (ending_text x.ending x.tally.plans x.tally.expansions)));
        },
        record { fewer = grind (arith, nat_tests); small = h.small; counted = h.counted; quiet = h.quiet },
      )

  -- a visit was told
  visited : (t : Telling) (q : List ℕ) (z : Node) (x : Sight) (vs : List Visit) (y : Turn) (r : SinkRun)
      → Tells s (visit q z x) y t r → Goes s n (visit q z x) vs y t r
  visited t q z Did vs y r m =
      rw (m.1.0, m.1.1) (
        n + 1,
        silent _ _ r m.1.2 refl,
        record { fewer = h.fewer; small = h.small; counted = omega (arith, h.counted); quiet = h.quiet },
      )
  visited t q z Plan vs y r m =
      rw (m.1.0, m.1.1) (plan_told q z vs r (next_number s) next_is m.1.2 (is_last s) refl)
  visited t q z CutHere vs y r m =
      rw (m.1.0, m.1.1) (
        n,
        silent _ _ r m.1.2 refl,
        record { fewer = h.fewer; small = h.small; counted = h.counted; quiet = refl },
      )
  visited t q z (FaultHere f) vs y r m =
      rw (m.1.0, m.1.1) (silent _ _ r m.1.2 (ended_alike [] (AtFault f) s.progress.plans))

  -- a stop in the text of a plan is one in what was left
  halted : (q : List ℕ) (z : Node) (x : Sight) (vs : List Visit) (e : Halt) (r : SinkRun)
      → StopsAt s (visit q z x) e r → Halts e (left_of s n (visit q z x ∷ vs)).0 r
  halted q z x vs e r m =
      rw m.1
      (rw append_assoc (halts_longer e (telling s.detail (s.progress.plans + 1) (visit q z Plan)) _ r
      (rw (next_is, ← m.1) m.2)))

-- ---- all visits

-- why a telling stops
abbrev pub halt_of : Stop Halt → Halt
halt_of stops.NoMemory = NoMemory
halt_of (stops.Failed h) = h

-- what is at hand has taken bytes, and counts faults
module _ {C : Type 0} (bytes : C → Option (List ℕ)) (faults : C → ℕ) where
  abbrev run : C → C → SinkRun
  run c d = sink_run (faults c) (faults d) (bytes c) (bytes d)

  abbrev meets : Telling → C → Visit → Turn → Telling → C → Type 0
  meets s c v t u d = Tells s v t u (run c d)

  -- what is told once the visits were made was left before them
  pub passed_told : (s u : Telling) (n : ℕ) (c e f : C) (vs : List Visit) (there : Standing) (o : Result Status Halt)
      → IsReady s n → Passes meets s c vs u e there
      → (faults c ≤ faults e) × (IsTold (closing u) o (run e f) → IsTold (left_of s n vs) o (run c f))
  passed_told _ _ n _ _ f _ _ o h (AtEnd s c) = (
    omega arith,
    λ k. subst (λ (a : Answer). IsTold a o (run c f))
        (sym (ended_alike s n h [] (quiet_ending s.progress.is_cut) s.progress.plans)) (rw (← h.quiet) k),
  )
  passed_told _ _ n _ _ f _ _ o h (GoesOn s t u c d e v vs there m rest) =
      let now = visited s n h t v.path v.node v.sight vs On (run c d) m in
      let later = passed_told t u now.0 d e f vs there o now.2 rest in
      (omega (arith, m.0, later.0), λ k. told_after _ _ (run c d) o _ _ _ m.0 now.1 (later.1 k))
  passed_told _ _ n _ _ f _ _ o h (LeavesOut s t u c d e v vs there m rest) =
      absurd (visited s n h t v.path v.node v.sight vs Past (run c d) m)
  passed_told _ _ n _ _ f _ _ o h (Ends s t c d v vs m) =
      let now = visited s n h t v.path v.node v.sight vs Last (run c d) m in
      (m.0, λ k. told_after _ _ (run c d) o _ _ _ m.0 now k)

  -- a stop at a visit, or between two, is one in what was left
  pub stopped_told : (s : Telling) (n : ℕ) (c e : C) (vs : List Visit) (x : Stop Halt) → IsReady s n
      → Stops meets (λ s c v h d. StopsAt s v h (run c d)) s c vs x e
      → (faults c ≤ faults e) × Halts (halt_of x) (left_of s n vs).0 (run c e)
  stopped_told _ n _ _ _ _ h (Between s c vs) = (omega arith, nothing_written (left_of s n vs).0 (bytes c))
  stopped_told _ n _ _ _ _ h (Within s c d v vs x m) =
      (m.0, halted s n h v.path v.node v.sight vs x (run c d) m)
  stopped_told _ n _ _ _ _ h (AfterOne s t c d e v vs x m rest) =
      let now = visited s n h t v.path v.node v.sight vs On (run c d) m in
      let later = stopped_told t now.0 d e vs x now.2 rest in
      (omega (arith, m.0, later.0), told_after _ _ (run c d) (Err (halt_of x)) _ _ _ m.0 now.1 later.1)
  stopped_told _ n _ _ _ _ h (AfterPart s t c d e v vs x m rest) =
      absurd (visited s n h t v.path v.node v.sight vs Past (run c d) m)
