-- What is so at all the visits that are left stays so as a walk goes on.
use Rattle.std.proofs.Common.{◌≡◌, List, [], ◌∷◌, refl, sym, ap, ◌∙◌, subst}
use Rattle.std.specs.List.{All}
use Rattle.std.proofs.lemmas.List.Elements.{All-nil, All-tail}
use Rattle.hp_net.specs.Standings.{Tree, Standing, IsAtItsNode, left_after, gone_on}
use Rattle.hp_syntax.specs.Walk.{Sight, Did, Plan, CutHere, FaultHere, Visit}

-- a fact of all the visits that are left holds of those behind the first
left_keeps : (P : Visit → Type 0) (x : Sight) (v : Visit) (vs : List Visit) → v.sight ≡ x → All P vs
    → All P (left_after v vs)
left_keeps P Did v vs h a = rw h a
left_keeps P Plan v vs h a = rw h a
left_keeps P CutHere v vs h a = rw h a
left_keeps P (FaultHere g) v vs h a = rw h (All-nil P)

gone_on_keeps : (P : Visit → Type 0) (vs : List Visit) (s t : Standing) → s.rest ≡ vs → t ≡ gone_on s
    → All P vs → All P t.rest
gone_on_keeps P [] s t e gone a =
    let left : t.rest ≡ [] = ap (λ z. z.rest) gone ∙ (rw e refl) in
    subst (All P) (sym left) (All-nil P)
gone_on_keeps P (v ∷ vs) s t e gone a =
    let left : t.rest ≡ left_after v vs = ap (λ z. z.rest) gone ∙ (rw e refl) in
    subst (All P) (sym left) (left_keeps P v.sight v vs refl (All-tail P v vs a))

-- where all that is left is at its node, it goes on to be so
pub at_kept : (t u : Tree) (s r : Standing) → u ≡ t → r ≡ gone_on s → All (IsAtItsNode t) s.rest
    → All (IsAtItsNode u) r.rest
at_kept t u s r same gone a =
    subst (λ w. All (IsAtItsNode w) r.rest) (sym same) (gone_on_keeps (IsAtItsNode t) s.rest s r refl gone a)
