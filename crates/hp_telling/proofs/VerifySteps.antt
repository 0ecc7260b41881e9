-- The status of what is told of a plan, by what is said of it.
use Rattle.std.proofs.Common.{◌≡◌, ◌↔◌, ℕ, true, false, refl}
use Rattle.hp_syntax.specs.declared.status.Status.TheVariants as status
use Rattle.hp_verify.specs.Kept.{DerivedAt, Faulty, IsDerived, Said, Underived, answer_of}
use Rattle.hp_telling.specs.VerifyReports.{told_said}

-- a run is done exactly where the plan is derived
pub done_is_derived : (x : Said) (n : ℕ) → ((told_said x n).1 ≡ status.Done) ↔ IsDerived (answer_of x)
done_is_derived (DerivedAt v) n = (λ e. refl, λ e. refl)
done_is_derived (Underived true) n = (λ e. cc, λ e. cc)
done_is_derived (Underived false) n = (λ e. cc, λ e. cc)
done_is_derived (Faulty f) n = (λ e. cc, λ e. cc)
