-- Notes while cells grow and further events are heard.
use Rattle.std.proofs.Common.{◌≡◌, ℕ, ◌≤◌, Bool, true, false, cond, ℤ, List, [], ◌∷◌, ◌++◌, ◌||◌, map, length, Result, Ok, Err, refl, sym, ◌∙◌, ap, ap₂, subst, arith}
use Rattle.std.specs.List.{All}
use Rattle.std.proofs.lemmas.List.{append-nil}
use Rattle.std.proofs.lemmas.List.Elements.{All-weaker}
use Rattle.hp_syntax.specs.Terms.{Term}
use Rattle.hp_syntax.specs.Syntax.{Order}
use Rattle.hp_syntax.specs.Values.{Bindings}
use Rattle.hp_syntax.specs.Events.{Sat, Cut}
use Rattle.hp_syntax.specs.Preconditions.{Keyed, Keys, NoKey, sorts_before, sorted, sorted_events}
use Rattle.hp_eval.specs.declared.event.EvalStop.{EvalStop}
use Rattle.hp_eval.specs.declared.event.EvalStop.TheVariants as stops
use Rattle.hp_eval.specs.Slotted.{Slotted, slotted, AreBelow, undone}
use Rattle.hp_eval.specs.Growth.{Grows}
use Rattle.hp_eval.proofs.SlotLemmas.{below_undone}
use Rattle.hp_eval.proofs.GrowthLemmas.{kept_agree, below_grows}
use Rattle.hp_pick.specs.declared.noted.Noted.{Noted}
use Rattle.hp_pick.specs.declared.noted.NotedSats.{NotedSats}
use Rattle.hp_eval.specs.Events.{PlainEvent}
use Rattle.hp_pick.specs.Noted.{IsNoted, entry_of, noted_events, with_notes, HearsOn, Hears, HearsInOrder}
use Rattle.hp_pick.specs.SortedLaws.{entries_agree}

module _ (c d : List Term) (g : Grows c d) (start : Slotted) where
  -- noted satisfiers stay so while cells are added
  pub noted_grown : (ns : List Noted) → All (IsNoted (length c) start) ns → All (IsNoted (length d) start) ns
  noted_grown ns h =
      All-weaker (IsNoted (length c) start) (IsNoted (length d) start)
      (λ n p. record {
        extends = p.extends;
        below = below_grows c d g (slotted n.values.items []) p.below;
        few = p.few;
      })
      ns h

  -- entries stay while cells are added
  entries_stay : (ns : List Noted) → All (IsNoted (length c) start) ns → map (entry_of d) ns ≡ map (entry_of c) ns
  entries_stay ns h =
      sym (entries_agree c d (length c) start ns h (kept_agree c d g (length c) (omega arith)))

  -- notes give the same over cells that were added to
  pub with_notes_grown : (notes : NotedSats) (k : Keyed) → All (IsNoted (length c) start) notes.sats.items
      → with_notes d notes k ≡ with_notes c notes k
  with_notes_grown notes (NoKey f) h = refl
  with_notes_grown notes (Keys xs cut) h =
      ap (λ es. Keys (es ++ xs) (notes.cut || cut)) (entries_stay notes.sats.items h)

-- with no notes the entries of a list are its own
pub with_no_notes : (c : List Term) (notes : NotedSats) (k : Keyed) → notes.sats.items ≡ [] → notes.cut ≡ false
    → with_notes c notes k ≡ k
with_no_notes c notes (NoKey f) h q = refl
with_no_notes c notes (Keys xs cut) h q = ap₂ (λ ns b. Keys (map (entry_of c) ns ++ xs) (b || cut)) h q

-- an event is heard of an equal whole, and an equal remainder is left
pub hears_same : (r : Result Bool EvalStop) (v w k l alone : Keyed) → v ≡ w → l ≡ k → HearsOn r v k alone
    → HearsOn r w l alone
hears_same (Ok true) v w k l alone p q h = sym p ∙ (h ∙ sym q)
hears_same (Ok false) v w k l alone p q h = sym p ∙ h
hears_same (Err (stops.Fault f)) v w k l alone p q h = sym p ∙ h
hears_same (Err stops.NoMemory) v w k l alone p q h = tt

-- cells stay below a greater count when bindings are undone
pub below_undone_more : (m n mark : ℕ) (e f : Slotted) → AreBelow m e → m ≤ n → f ≡ undone mark e → AreBelow n f
below_undone_more m n mark e f below h q =
    subst (AreBelow n) (sym q) (λ v cell k. omega (arith, below_undone m mark e below v cell k))

-- the stop of a list is that of the list in order
pub stops_in_order : (c : List Term) (order : Order) (e : EvalStop) (k : Keyed) → Hears c (Err e) k
    → HearsInOrder c (Err e) (sorted_events order k)
stops_in_order c order (stops.Fault f) k h = ap (sorted_events order) h
stops_in_order c order stops.NoMemory k h = tt

-- a whole list that was heard is given in order, where its satisfiers were put in order
pub heard_in_order : (c : List Term) (order : Order) (notes : NotedSats) (k : Keyed) (ns : List Noted)
    → k ≡ with_notes c notes (Keys [] false)
    → map (entry_of c) ns ≡ sorted (sorts_before order) (map (entry_of c) notes.sats.items)
    → sorted_events order k ≡ noted_events c ns notes.cut
heard_in_order c order notes k ns h q =
    let events : List (ℤ × Bindings) → Bool → List PlainEvent =
    λ es cut. map (λ x. Sat x.1) es ++ cond cut (Cut ∷ []) [] in
    ap (sorted_events order) h
    ∙ (ap₂ (λ es cut. events (sorted (sorts_before order) es) cut) (append-nil (map (entry_of c) notes.sats.items))
    (no_more notes.cut)
    ∙ ap (λ es. events es notes.cut) (sym q))
  where
    no_more : (cut : Bool) → (cut || false) ≡ cut
    no_more true = refl
    no_more false = refl
