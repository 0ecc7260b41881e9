use Rattle.std.proofs.Common.{◌≡◌, ◌<◌, ◌≤◌, false, true, length, rules, sym, ◌∙◌, ap, subst, arith}
use Rattle.std.specs.Prelude.{is_some}
use Rattle.hp_eval.specs.declared.event.Event.TheVariants as events
use Rattle.hp_eval.proofs.GrowthLemmas.{grows_length, grows_on}
use Rattle.hp_world.specs.Pasts.{PastsBelow}
use Rattle.hp_world.specs.Recorded.{history_in}
use Rattle.hp_world.proofs.PastLemmas.{all_stood_below}
use Rattle.hp_precondition.specs.Picks.{picked_kept}
use Rattle.hp_tree.specs.Children.{IsCandidate}
use Rattle.hp_tree.specs.SearchNodes.{HeldNode}
use Rattle.hp_choice.specs.declared.choice.Choice.{Choice}
use Rattle.hp_choice.specs.Choices.{IsChoice, Takes, events_left, floor_of, held_children}
use Rattle.hp_site.specs.Sites.{Keeps, held_now, mark_now}
use Rattle.hp_site.proofs.SiteLemmas.{keeps_after, keeps_now}
use Rattle.hp_choice.proofs.SiteSteps.{pasts_below, pasts_stay, site_grows}
use Rattle.hp_choice.proofs.ChoiceLemmas.{choice_grows}
use Rattle.hp_choice.proofs.NextSteps.{child_first, choice_at, choice_left, end_before, end_left, fewer_then, none_given, passed_then, served_on, stays_none, takes_none, takes_some}
use Rattle.hp_choice.proofs.choice.Choice.next.Goals as goal

pub next_event-requires-clause-indexes : goal.next_event-requires-clause-indexes
next_event-requires-clause-indexes c =
    let s = c.loop-event.site in
    all_stood_below (picked_kept c.loop-event.self.sats) s.scene.world c.loop-event.invariant.site.stood
    c.loop-event.invariant.pasts

pub returns-then-eq-clause-takes : goal.returns-then-eq-clause-takes
returns-then-eq-clause-takes c =
    let end : c.in_ok-event.event ≡ events.End = search rules in
    let before = c.loop-event.invariant in
    let told = c.in_ok-event.ensures in
    let old = c.loop-event.cells in
    let mid = c.next_event.new.cells in
    let s = c.loop-event.site in
    let after = c.next_event.new.self in
    takes_none c.args.site.now s c.args.nest c.args.cells.now c.args.self.now before.keeps
    (keeps_now c.args.site.now s before.keeps before.stays) mid after _ before.left
    (end_before old mid told.cells s c.args.nest before.site c.loop-event.self after before.choice told.choice
    told.id told.task told.deed told.left told.sat c.in_ok-event.event told.event end)
    (end_left old mid told.cells s c.args.nest before.site c.loop-event.self after before.choice told.choice
    told.id told.task told.deed told.left told.sat c.in_ok-event.event told.event end)

pub returns-then-eq-clause-choice : goal.returns-then-eq-clause-choice
returns-then-eq-clause-choice c =
    let before = c.loop-event.invariant in
    choice_at c.loop-event.site c.args.site.now c.next_event.new.cells (length c.next_event.new.cells)
    c.next_event.new.self (sym before.keeps.code)
    (sym (keeps_now c.args.site.now c.loop-event.site before.keeps before.stays)) c.in_ok-event.ensures.choice

pub returns-then-eq-clause-site : goal.returns-then-eq-clause-site
returns-then-eq-clause-site c =
    site_grows c.loop-event.cells c.next_event.new.cells c.in_ok-event.ensures.cells c.loop-event.site
    c.loop-event.invariant.site

pub given-requires-clause-site : goal.given-requires-clause-site
given-requires-clause-site c =
    site_grows c.loop-event.cells c.next_event.new.cells c.in_ok-event.ensures.cells c.loop-event.site
    c.loop-event.invariant.site

pub returns-then-is_some-clause-takes : goal.returns-then-is_some-clause-takes
returns-then-is_some-clause-takes c =
    let some : is_some c.in_ok-given.given ≡ true = search rules in
    let before = c.loop-event.invariant in
    let told = c.in_ok-event.ensures in
    let gave = c.in_ok-given.ensures in
    let old = c.loop-event.cells in
    let mid = c.next_event.new.cells in
    let new = c.given.new.cells in
    let s = c.loop-event.site in
    let t = c.given.new.site in
    let after = c.next_event.new.self in
    let whole = c.args.site.now in
    subst (λ x. Takes whole.scene c.args.nest c.args.cells.now new (held_now whole) c.args.self.now c.in_ok-given.given
    (held_now t) x) (sym gave.same)
    (takes_some whole s c.args.nest c.args.cells.now c.args.self.now before.keeps
    (keeps_now whole s before.keeps before.stays) new after t c.in_ok-given.given _ before.left
    (child_first old mid told.cells s c.args.nest before.site c.loop-event.self after before.choice told.choice told.id
    told.task told.deed told.left told.sat c.in_ok-event.event told.event new gave.cells t c.in_ok-given.given
    gave.gives) some)

pub returns-then-is_some-clause-choice : goal.returns-then-is_some-clause-choice
returns-then-is_some-clause-choice c =
    let before = c.loop-event.invariant in
    let told = c.in_ok-event.ensures in
    let gave = c.in_ok-given.ensures in
    let old = c.loop-event.cells in
    let mid = c.next_event.new.cells in
    let new = c.given.new.cells in
    let s = c.loop-event.site in
    let t = c.given.new.site in
    let after = c.next_event.new.self in
    let whole = c.args.site.now in
    let n = floor_of c.in_ok-given.given (length new) in
    subst (λ x. IsChoice whole.scene new n (held_now whole).stage x) (sym gave.same)
    (choice_at s whole new n after (sym before.keeps.code) (sym (keeps_now whole s before.keeps before.stays))
    (choice_left old mid told.cells s c.args.nest before.site c.loop-event.self after before.choice told.choice told.id
    told.task told.deed told.left told.sat c.in_ok-event.event told.event new gave.cells t c.in_ok-given.given
    gave.gives))

pub loop-event-smaller : goal.loop-event-smaller
loop-event-smaller c =
    let none : is_some c.in_ok-given.given ≡ false = search rules in
    let more : c.in_ok-event.event ≡ events.End → ⊥ = search rules in
    let before = c.loop-event.invariant in
    let told = c.in_ok-event.ensures in
    let gave = c.in_ok-given.ensures in
    let old = c.loop-event.cells in
    let mid = c.next_event.new.cells in
    let new = c.given.new.cells in
    let s = c.loop-event.site in
    let t = c.given.new.site in
    let after = c.next_event.new.self in
    let stays = stays_none c.in_ok-given.given s t (none_given c.in_ok-given.given none) gave.gives.stays in
    subst (λ x. length (events_left t.scene new (held_now t).stage x)
    < length (events_left s.scene old (held_now s).stage c.loop-event.self)) (sym gave.same)
    (fewer_then old mid told.cells s c.args.nest before.site c.loop-event.self after before.choice told.choice told.id
    told.task told.deed told.left told.sat c.in_ok-event.event told.event new gave.cells t c.in_ok-given.given
    gave.gives more gave.keeps.code (keeps_now s t gave.keeps stays))

pub loop-event-preserved : goal.loop-event-preserved
loop-event-preserved c =
    let none : is_some c.in_ok-given.given ≡ false = search rules in
    let before = c.loop-event.invariant in
    let told = c.in_ok-event.ensures in
    let gave = c.in_ok-given.ensures in
    let old = c.loop-event.cells in
    let mid = c.next_event.new.cells in
    let new = c.given.new.cells in
    let s = c.loop-event.site in
    let t = c.given.new.site in
    let after = c.next_event.new.self in
    let whole = c.args.site.now in
    let gone = none_given c.in_ok-given.given none in
    let stays = stays_none c.in_ok-given.given s t gone gave.gives.stays in
    let held = keeps_now s t gave.keeps stays in
    let same = gave.same in
    record {
      grows = grows_on c.args.cells.now mid new (grows_on c.args.cells.now old mid before.grows told.cells) gave.cells;
      choice =
          subst (λ x. IsChoice t.scene new (length new) (held_now t).stage x) (sym same)
          (choice_at s t new (length new) after gave.keeps.code held
          (choice_grows mid new gave.cells s.scene (held_now s).stage after told.choice (length new)
          (grows_length mid new gave.cells)));
      candidate =
          subst (λ x. IsCandidate t.net.now x) (sym (ap (λ (x : Choice). x.id) same ∙ told.id))
          (subst (λ (h : HeldNode). IsCandidate h.network c.loop-event.self.id) (sym held) before.candidate);
      site = gave.site;
      pasts =
          subst (λ (x : Choice). PastsBelow (picked_kept x.sats) (history_in t.scene.world)) (sym same)
          (pasts_stay (picked_kept after.sats) s t gave.keeps stays
          (pasts_below (picked_kept c.loop-event.self.sats) (picked_kept after.sats) (history_in s.scene.world)
          told.kept before.pasts));
      deep = subst (λ (h : HeldNode). 0 < h.depth) (sym held) before.deep;
      keeps =
          keeps_after (mark_now whole) whole s t before.keeps
          (subst (λ m. Keeps m s t) before.stays gave.keeps);
      stays = stays ∙ before.stays;
      left =
          subst (λ x. held_children whole.scene c.args.nest c.args.cells.now (held_now whole) c.args.self.now
          ≡ held_children t.scene c.args.nest new (held_now t) x) (sym same)
          (before.left
          ∙ passed_then old mid told.cells s c.args.nest before.site c.loop-event.self after before.choice told.choice
          told.id told.task told.deed told.left told.sat c.in_ok-event.event told.event new gave.cells t
          c.in_ok-given.given gave.gives gone gave.keeps.code held);
      kept =
          subst (λ (x : Choice). picked_kept c.args.self.now.sats ≤ picked_kept x.sats) (sym same)
          (omega (arith, before.kept, told.kept));
      id = ap (λ (x : Choice). x.id) same ∙ (told.id ∙ before.id);
      served = served_on c.args.self.now c.loop-event.self after c.given.new.self before.served told.served same;
    }
