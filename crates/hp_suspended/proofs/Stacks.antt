-- A stack of suspended parts, one more and one less.
use Rattle.std.proofs.Common.{◌≡◌, ℕ, Bool, true, false, cond, List, [], ◌∷◌, ◌++◌, length, map, Option, Some, refl, ap, sym, ◌∙◌}
use Rattle.std.specs.Option.{option_to_list}
use Rattle.hp_eval.specs.declared.event.Event.{Event}
use Rattle.hp_eval.specs.declared.event.Event.TheVariants as events
use Rattle.hp_eval.specs.Slotted.{Slotted}
use Rattle.hp_suspended.specs.declared.suspended.Part.{Part}
use Rattle.hp_suspended.specs.declared.suspended.Suspended.{Suspended}
use Rattle.hp_suspended.specs.declared.suspended.Suspended.TheViews.{roll-Part}
use Rattle.hp_suspended.specs.Answering.{is_over, put_upon}
use Rattle.hp_suspended.specs.Views.{View, One, Views, Bare, Above, onto, storey, view, views}
use Rattle.hp_suspended.proofs.Shapes.{storey_is}

onto_last : (vs : Views) (ps : List Part) (p : Part)
    → onto vs (map storey (ps ++ p ∷ [])) ≡ Above (onto vs (map storey ps)) (storey p).next (storey p).top
onto_last vs [] p = refl
onto_last vs (q ∷ ps) p = onto_last (Above vs (storey q).next (storey q).top) ps p

-- a part behind others stands upon them
pub views_last : (ps : List Part) (p : Part) → views (ps ++ p ∷ []) ≡ Above (views ps) p.next (view p.part)
views_last ps p = onto_last Bare ps p ∙ ap (λ s. Above (views ps) s.next s.top) (storey_is p)

-- a part that is put upon others
pub views_pushed : (ps qs : List Part) (k : ℕ) (s t : Suspended)
    → qs ≡ ps ++ roll-Part (record { next = k; part = s }) ∷ [] → s ≡ t → views qs ≡ Above (views ps) k (view t)
views_pushed ps qs k s t e q =
    ap views e ∙ views_last ps (roll-Part (record { next = k; part = s })) ∙ ap (λ x. Above (views ps) k (view x)) q

-- a part that is taken off others
pub views_popped : (ps qs : List Part) (o : Option Part) (p : Part) → ps ≡ qs ++ option_to_list o → o ≡ Some p
    → views ps ≡ Above (views qs) p.next (view p.part)
views_popped ps qs o p e q = ap views (e ∙ ap (λ x. qs ++ option_to_list x) q) ∙ views_last qs p

-- what gives an event still isn't over
pub other_event : (m n : ℕ) (x : Event) → (x ≡ events.End → ⊥) → is_over m (One n x) ≡ false
other_event m n events.Sat h = refl
other_event m n events.Cut h = refl
other_event m n (events.Fault f) h = refl
other_event m n events.End h = absurd (h refl)

module _ (m : ℕ) (e : Slotted) (marks : m ≡ length e.trail) (lower : Views) (k : ℕ) (v : View) (over : Bool)
    (tells : over ≡ is_over m v) where
  put_by : put_upon (length e.trail) lower k v ≡ cond over lower (Above lower k v)
  put_by = ap (λ n. put_upon n lower k v) (sym marks) ∙ ap (λ b. cond b lower (Above lower k v)) (sym tells)

  -- a part that is over isn't put upon the others
  pub put_over : over ≡ true → lower ≡ put_upon (length e.trail) lower k v
  put_over h = sym (put_by ∙ ap (λ b. cond b lower (Above lower k v)) h)

  -- another is
  pub put_there : over ≡ false → Above lower k v ≡ put_upon (length e.trail) lower k v
  put_there h = sym (put_by ∙ ap (λ b. cond b lower (Above lower k v)) h)
