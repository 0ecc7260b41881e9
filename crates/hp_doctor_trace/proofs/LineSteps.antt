-- Lines of visits that are written one after the other.
use Rattle.std.proofs.Common.{◌≡◌, ℕ, zero, suc, ◌+◌, ◌<◌, ◌≤◌, ◌-◌, List, [], ◌++◌, Option, refl, sym, ap, ◌∙◌, subst, arith, append_assoc}
use Rattle.std.proofs.lemmas.List.{append-nil}
use Rattle.hp_doctor.proofs.RemarkSteps.{halts_after, halts_longer}
use Rattle.hp_doctor.specs.declared.telling.Halt.{Halt}
use Rattle.hp_doctor.specs.Telling.{Halts}
use Rattle.hp_doctor.specs.Texts.{Texts}
use Rattle.hp_out.specs.Writing.{sink_run, Wrote}
use Rattle.hp_syntax.specs.Syntax.{Rule}
use Rattle.hp_trace.specs.declared.tracing.TracedVisit.{TracedVisit}
use Rattle.hp_doctor_trace.specs.Lines.{line_at, lines_text}

module _ (t : Texts) (rules : List Rule) (vs : List TracedVisit) where
  -- more lines go on from fewer
  lines_on : (m k n : ℕ) → n ≡ k + m
      → (rest : List ℕ) × (lines_text t rules vs n ≡ lines_text t rules vs m ++ rest)
  lines_on m zero n e =
      let same : n ≡ m = omega (arith, e) in
      ([], ap (lines_text t rules vs) same ∙ sym (append-nil (lines_text t rules vs m)))
  lines_on m (suc k) n e =
      let r = lines_on m k (k + m) refl in
      let more : n ≡ suc (k + m) = omega (arith, e) in (
        r.0 ++ line_at t rules vs (k + m),
        ap (lines_text t rules vs) more
            ∙ (ap (λ x. x ++ line_at t rules vs (k + m)) r.1
            ∙ append_assoc (lines_text t rules vs m) r.0 (line_at t rules vs (k + m))),
      )

  pub lines_next : (i : ℕ) → lines_text t rules vs (i + 1) ≡ lines_text t rules vs i ++ line_at t rules vs i
  lines_next i = let e : i + 1 ≡ suc i = omega arith in ap (lines_text t rules vs) e

  -- a stop of the lines of one visit, after those before it, is one of all
  pub halts_line : (i n : ℕ) → i < n → (h : Halt) (f g k : ℕ) (a b c : Option (List ℕ)) → f ≤ g
      → Wrote (lines_text t rules vs i) a b → Halts h (line_at t rules vs i) (sink_run g k b c)
      → Halts h (lines_text t rules vs n) (sink_run f k a c)
  halts_line i n less h f g k a b c e w v =
      let r = lines_on (suc i) (n - suc i) n (omega (arith, less)) in
      subst (λ x. Halts h x (sink_run f k a c)) (sym r.1)
      (halts_longer h (lines_text t rules vs (suc i)) r.0 (sink_run f k a c)
      (halts_after h (lines_text t rules vs i) (line_at t rules vs i) f g k a b c e w v))
