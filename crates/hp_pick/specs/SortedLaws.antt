-- Laws of satisfiers in order.
use Rattle.std.specs.Prelude.{◌≡◌, ℕ, ◌≤◌, cond, List, [], ◌∷◌, ◌++◌, map, length, take, drop, Option, Some, None, slice_get, refl}
use Rattle.std.specs.List.{All}
use Rattle.std.proofs.Common.{sym, ◌∙◌, ap, ap₂, subst}
use Rattle.std.proofs.lemmas.List.{length-map}
use Rattle.std.proofs.lemmas.List.Elements.{All-head, All-tail, All-map, All-drop, All-weaker}
use Rattle.std.proofs.lemmas.Option.{none-some}
use Rattle.hp_syntax.specs.Syntax.{Key}
use Rattle.hp_syntax.specs.Terms.{Term}
use Rattle.hp_syntax.specs.Values.{bound, flat_option}
use Rattle.hp_syntax.specs.Events.{Sat, Cut, EventExtends}
use Rattle.hp_syntax.specs.Preconditions.{keyed, sorted_events}
use Rattle.hp_laws.proofs.ExtendLemmas.{KeyExtends, keyed_extends, sats_extend, sorted_events_extend}
use Rattle.hp_eval.specs.Slotted.{Slotted, slotted, AreBelow, undone, flat, named, bindings_of}
use Rattle.hp_eval.specs.Events.{PlainEvent}
use Rattle.hp_eval.specs.SlotLaws.{bindings_agree}
use Rattle.hp_eval.proofs.AttemptLemmas.{place_bound}
use Rattle.hp_eval.proofs.SlotLemmas.{bindings_some}
use Rattle.hp_eval.proofs.ValueSteps.{bound_named}
use Rattle.hp_pick.specs.declared.noted.Noted.{Noted}
use Rattle.hp_pick.specs.declared.heard.Heard.{Heard}
use Rattle.hp_pick.specs.Noted.{IsNoted, entry_of}
use Rattle.hp_pick.specs.Heard.{rest_in_order, SuitsEither, FitsEither, kept_of}

-- ---- entries

-- a noted satisfier extends the bindings of the start
noted_extends : (c : List Term) (kept : ℕ) (start : Slotted) (n : Noted) → IsNoted kept start n
    → KeyExtends (bindings_of c start) (entry_of c n)
noted_extends c kept start n h = record {
  as_many =
      length-map n.values.items (named c) ∙ sym h.extends.as_many ∙ sym (length-map start.values (named c));
  keeps = λ v t k. by v t (flat (slice_get start.values v)) refl (sym (bound_named c start v) ∙ k);
}
  where
    by : (v : ℕ) (t : Term) (o : Option ℕ) → flat (slice_get start.values v) ≡ o
        → named c (flat (slice_get start.values v)) ≡ Some t → bound (map (named c) n.values.items) v ≡ Some t
    by v t None p q = absurd (none-some t (sym (ap (named c) p) ∙ q))
    by v t (Some cell) p q =
        ap flat_option (bindings_some c (slotted n.values.items []) v cell t
        (h.extends.keeps v cell (place_bound start v cell p)) (sym (ap (named c) p) ∙ q))

-- entries extend the bindings of the start
entries_extend : (c : List Term) (kept : ℕ) (start : Slotted) (ns : List Noted) → All (IsNoted kept start) ns
    → All (KeyExtends (bindings_of c start)) (map (entry_of c) ns)
entries_extend c kept start ns all =
    All-map (KeyExtends (bindings_of c start)) (entry_of c) ns
    (All-weaker (IsNoted kept start) (λ n. KeyExtends (bindings_of c start) (entry_of c n))
    (noted_extends c kept start) ns all)

-- entries are the same over terms that agree below the kept number
pub entries_agree : (c d : List Term) (kept : ℕ) (start : Slotted) (ns : List Noted) → All (IsNoted kept start) ns
    → take kept c ≡ take kept d → map (entry_of c) ns ≡ map (entry_of d) ns
entries_agree c d kept start [] all h = refl
entries_agree c d kept start (n ∷ ns) all h =
    let p = All-head (IsNoted kept start) n ns all in
    ap₂ (λ b es. (n.number, b) ∷ es) (bindings_agree kept c d (slotted n.values.items []) p.below h)
    (entries_agree c d kept start ns (All-tail (IsNoted kept start) n ns all) h)

-- ---- the laws

-- the start is below the bindings, and the cells are below the kept number
pub either_hold : (fits : Type 0) (start mark kept : ℕ) (o : Option Heard) (e : Slotted)
    → (fits → (start ≤ length e.trail) × AreBelow kept e) → FitsEither fits start mark o e
    → (mark ≤ length e.trail) × AreBelow (kept_of kept o) e
either_hold fits start mark kept None e h f =
    (subst (λ n. n ≤ length e.trail) (sym f.0) (h f.1).0, (h f.1).1)
either_hold fits start mark kept (Some x) e h f = (f.above, f.below)

-- a base that suits the list suits it over terms that agree below the kept number
pub either_suits : (suits after : Type 0) (kept : ℕ) (o : Option Heard) (c d : List Term)
    → (suits → take kept c ≡ take kept d → after) → SuitsEither suits o
    → take (kept_of kept o) c ≡ take (kept_of kept o) d → SuitsEither after o
either_suits suits after kept None c d h s q = h s q
either_suits suits after kept (Some x) c d h s q = tt

-- the events that are left are the same over terms that agree below the kept number
pub either_same : (k : Key) (suits fits : Type 0) (start mark kept : ℕ) (o : Option Heard) (e : Slotted)
    (c d : List Term) (xs ys : List PlainEvent) → (suits → fits → take kept c ≡ take kept d → xs ≡ ys)
    → SuitsEither suits o → FitsEither fits start mark o e → take (kept_of kept o) c ≡ take (kept_of kept o) d
    → rest_in_order k xs c o ≡ rest_in_order k ys d o
either_same k suits fits start mark kept None e c d xs ys h s f q =
    ap (λ zs. sorted_events k.order (keyed k zs)) (h s f.1 q)
either_same k suits fits start mark kept (Some x) e c d xs ys h s f q =
    ap (λ es. map (λ y. Sat y.1) es ++ cond x.notes.cut (Cut ∷ []) [])
    (entries_agree c d x.kept (undone mark e) (drop x.given x.notes.sats.items)
    (All-drop (IsNoted x.kept (undone mark e)) x.given x.notes.sats.items f.noted) q)

-- each Sat that is left extends the bindings of the mark
pub either_extend : (k : Key) (suits fits : Type 0) (start mark : ℕ) (o : Option Heard) (e : Slotted)
    (c : List Term) (xs : List PlainEvent) → (suits → fits → All (EventExtends (bindings_of c (undone start e))) xs)
    → SuitsEither suits o → FitsEither fits start mark o e
    → All (EventExtends (bindings_of c (undone mark e))) (rest_in_order k xs c o)
either_extend k suits fits start mark None e c xs h s f =
    let b = bindings_of c (undone mark e) in
    sorted_events_extend b k.order (keyed k xs)
    (keyed_extends b k xs (subst (λ n. All (EventExtends (bindings_of c (undone n e))) xs) (sym f.0) (h s f.1)))
either_extend k suits fits start mark (Some x) e c xs h s f =
    let left = drop x.given x.notes.sats.items in
    sats_extend (bindings_of c (undone mark e)) (map (entry_of c) left) x.notes.cut
    (entries_extend c x.kept (undone mark e) left
    (All-drop (IsNoted x.kept (undone mark e)) x.given x.notes.sats.items f.noted))
