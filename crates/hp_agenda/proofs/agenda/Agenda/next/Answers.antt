use Rattle.std.proofs.Common.{◌≡◌, ◌≤◌, [], true, false, length, sym, ap, ◌∙◌, subst, rules, arith, None}
use Rattle.std.specs.Prelude.{is_some}
use Rattle.hp_eval.proofs.GrowthLemmas.{grows_length, grows_on}
use Rattle.hp_suspended.specs.SceneViews.{code_in}
use Rattle.hp_tree.specs.SearchNodes.{HeldNode, IsHeldNode}
use Rattle.hp_site.specs.Sites.{held_now}
use Rattle.hp_choice.specs.Choices.{StaysUnless, floor_of}
use Rattle.hp_agenda.specs.Queues.{IsQueue, MaybeOpen, work_left}
use Rattle.hp_agenda.specs.declared.queue.Queue.{Queue}
use Rattle.hp_agenda.specs.Begun.{AreFirst}
use Rattle.hp_agenda.proofs.AgreeSteps.{agenda_within}
use Rattle.hp_agenda.proofs.BegunLemmas.{has_last_at, has_settled}
use Rattle.hp_agenda.proofs.AgendaSteps.{Resumes, agenda_at, agenda_children_at, agenda_ends, agenda_passes, agenda_takes, given_none, open_at, queue_at, queue_children_at, work_at, resumed_node, resumed_pasts, resumes_behind, site_grows, takes_at}
use Rattle.hp_agenda.proofs.agenda.Agenda.next.Goals as goal

pub next_of_open-requires-clause-open : goal.next_of_open-requires-clause-open
next_of_open-requires-clause-open c =
    let fn = c.args.site.now in
    let site = c.loop-given.site in
    let before = c.loop-given.invariant in
    open_at fn.scene site.scene (sym before.resumes.keeps.code) (held_now fn) (held_now site)
    (sym (resumed_node fn site before.resumes)) c.loop-given.cells c.args.base (length c.loop-given.cells)
    c.loop-given.self.open before.agenda.choice

pub next_of_open-requires-clause-pasts : goal.next_of_open-requires-clause-pasts
next_of_open-requires-clause-pasts c =
    resumed_pasts c.args.base c.args.site.now c.loop-given.site c.loop-given.invariant.resumes c.requires.pasts

pub returns-then-is_some-clause-takes : goal.returns-then-is_some-clause-takes
returns-then-is_some-clause-takes c =
    let fn = c.args.site.now in
    let site = c.loop-given.site in
    let before = c.loop-given.invariant in
    let told = c.in_ok-given.ensures in
    let given = c.in_ok-given.given in
    let old = c.loop-given.cells in
    let new = c.next_of_open.new.cells in
    let self = c.loop-given.self in
    let after = c.next_of_open.new.self in
    let child = held_now c.next_of_open.new.site in
    let code = before.resumes.keeps.code in
    let same = resumed_node fn site before.resumes in
    let node : IsHeldNode (length old) (held_now fn) = subst (IsHeldNode (length old)) same before.site.node in
    let some : is_some given ≡ true = search rules in
    agenda_takes fn.scene c.args.nest c.args.cells.now old new told.cells (held_now fn) node c.args.self.now self after
    given child before.left
    (takes_at site.scene fn.scene code (held_now site) (held_now fn) same c.args.nest old new self.open given child
    after.open told.takes)
    told.queue some

pub returns-then-is_some-clause-agenda : goal.returns-then-is_some-clause-agenda
returns-then-is_some-clause-agenda c =
    let fn = c.args.site.now in
    let site = c.loop-given.site in
    let before = c.loop-given.invariant in
    let told = c.in_ok-given.ensures in
    let new = c.next_of_open.new.cells in
    let code = before.resumes.keeps.code in
    let same = resumed_node fn site before.resumes in
    record {
      choice =
          open_at site.scene fn.scene code (held_now site) (held_now fn) same new c.args.base
          (floor_of c.in_ok-given.given (length new)) c.next_of_open.new.self.open told.open;
      queue = subst (IsQueue (code_in fn.scene) (held_now fn)) (sym told.queue) before.agenda.queue;
    }

pub returns-then-is_some-clause-last : goal.returns-then-is_some-clause-last
returns-then-is_some-clause-last c = λ h.
    let fn = c.args.site.now in
    let site = c.loop-given.site in
    let before = c.loop-given.invariant in
    let same = resumed_node fn site before.resumes in
    let code = before.resumes.keeps.code in
    has_last_at site.scene fn.scene code c.args.nest c.next_of_open.new.cells (held_now site) (held_now fn)
    c.next_of_open.new.self _ same
    (c.in_ok-given.ensures.last
    (has_last_at fn.scene site.scene (sym code) c.args.nest c.loop-given.cells (held_now fn) (held_now site)
    c.loop-given.self [] (sym same) (before.last h)))

pub returns-then-self-len-clause-last : goal.returns-then-self-len-clause-last
returns-then-self-len-clause-last c = λ h.
    let fn = c.args.site.now in
    let site = c.loop-given.site in
    let before = c.loop-given.invariant in
    let same = resumed_node fn site before.resumes in
    let code = before.resumes.keeps.code in
    let cells = c.next_of_open.new.cells in
    has_settled fn.scene c.args.nest cells (held_now fn) c.next_of_open.new.self _
    (has_last_at site.scene fn.scene code c.args.nest cells (held_now site) (held_now fn) c.next_of_open.new.self _ same
    (c.in_ok-given.ensures.last
    (has_last_at fn.scene site.scene (sym code) c.args.nest c.loop-given.cells (held_now fn) (held_now site)
    c.loop-given.self [] (sym same) (before.last h))))

pub returns-then-self-len-clause-takes : goal.returns-then-self-len-clause-takes
returns-then-self-len-clause-takes c =
    let fn = c.args.site.now in
    let site = c.loop-given.site in
    let before = c.loop-given.invariant in
    let told = c.in_ok-given.ensures in
    let given = c.in_ok-given.given in
    let old = c.loop-given.cells in
    let new = c.next_of_open.new.cells in
    let self = c.loop-given.self in
    let after = c.next_of_open.new.self in
    let child = held_now c.next_of_open.new.site in
    let code = before.resumes.keeps.code in
    let same = resumed_node fn site before.resumes in
    let node : IsHeldNode (length old) (held_now fn) = subst (IsHeldNode (length old)) same before.site.node in
    let test : is_some given ≡ false = search rules in
    let none : given ≡ None = given_none given test in
    let done : length after.queue.candidates.items ≤ after.queue.at = search rules in
    agenda_ends fn.scene c.args.nest c.args.cells.now old new told.cells (held_now fn) node c.args.self.now self after
    given child before.left
    (takes_at site.scene fn.scene code (held_now site) (held_now fn) same c.args.nest old new self.open given child
    after.open told.takes)
    told.queue none (subst (IsQueue (code_in fn.scene) (held_now fn)) (sym told.queue) before.agenda.queue) done

pub returns-then-self-len-clause-agenda : goal.returns-then-self-len-clause-agenda
returns-then-self-len-clause-agenda c =
    let fn = c.args.site.now in
    let site = c.loop-given.site in
    let before = c.loop-given.invariant in
    let told = c.in_ok-given.ensures in
    let given = c.in_ok-given.given in
    let new = c.next_of_open.new.cells in
    let choice = c.next_of_open.new.self.open in
    let code = before.resumes.keeps.code in
    let same = resumed_node fn site before.resumes in
    let test : is_some given ≡ false = search rules in
    record {
      choice =
          open_at site.scene fn.scene code (held_now site) (held_now fn) same new c.args.base (length new) choice
          (subst (λ o. MaybeOpen site.scene new c.args.base (floor_of o (length new)) (held_now site) choice)
          (given_none given test) told.open);
      queue = subst (IsQueue (code_in fn.scene) (held_now fn)) (sym told.queue) before.agenda.queue;
    }

pub advance-requires-clause-queue : goal.advance-requires-clause-queue
advance-requires-clause-queue c =
    let fn = c.args.site.now in
    let site = c.loop-given.site in
    let now = c.next_of_open.new.site in
    let before = c.loop-given.invariant in
    let told = c.in_ok-given.ensures in
    let given = c.in_ok-given.given in
    let test : is_some given ≡ false = search rules in
    let stays = subst (λ o. StaysUnless o site now) (given_none given test) told.stays in
    let resumes : Resumes fn now =
    resumes_behind fn site now before.resumes (record { keeps = told.keeps; mark = stays }) in
    queue_at fn.scene now.scene (sym resumes.keeps.code) (held_now fn) (held_now now)
    (sym (resumed_node fn now resumes)) c.next_of_open.new.self.queue
    (subst (IsQueue (code_in fn.scene) (held_now fn)) (sym told.queue) before.agenda.queue)

pub loop-given-preserved : goal.loop-given-preserved
loop-given-preserved c =
    let fn = c.args.site.now in
    let site = c.loop-given.site in
    let now = c.next_of_open.new.site in
    let before = c.loop-given.invariant in
    let told = c.in_ok-given.ensures in
    let given = c.in_ok-given.given in
    let old = c.loop-given.cells in
    let mid = c.next_of_open.new.cells in
    let new = c.advance.new.cells in
    let self = c.loop-given.self in
    let after = c.next_of_open.new.self in
    let child = held_now now in
    let opened = c.in_ok-advance.ensures in
    let code = before.resumes.keeps.code in
    let same = resumed_node fn site before.resumes in
    let node : IsHeldNode (length old) (held_now fn) = subst (IsHeldNode (length old)) same before.site.node in
    let test : is_some given ≡ false = search rules in
    let none : given ≡ None = given_none given test in
    let stays = subst (λ o. StaysUnless o site now) none told.stays in
    let resumes : Resumes fn now =
    resumes_behind fn site now before.resumes (record { keeps = told.keeps; mark = stays }) in
    let again = resumed_node fn now resumes in
    let more = grows_on c.args.cells.now old mid before.grows told.cells in
    let later = grows_length c.args.cells.now mid more in
    record {
      grows = grows_on c.args.cells.now mid new more opened.cells;
      site = site_grows mid new now opened.cells told.site;
      resumes = resumes;
      agenda =
          agenda_within fn.scene new (length mid) c.args.base (length new) (length new) (held_now fn) c.advance.new.self
          (agenda_at now.scene fn.scene resumes.keeps.code (held_now now) (held_now fn) again new (length mid)
          (length new) c.advance.new.self opened.agenda)
          (omega (arith, later, c.requires.base)) (omega arith);
      left =
          agenda_passes fn.scene c.args.nest c.args.cells.now old mid told.cells (held_now fn) node c.args.self.now self
          after given child before.left
          (takes_at site.scene fn.scene code (held_now site) (held_now fn) same c.args.nest old mid self.open given
          child after.open told.takes)
          told.queue none
          ∙ (sym (queue_children_at now.scene fn.scene resumes.keeps.code (held_now now) (held_now fn) again c.args.nest
          mid after.queue)
          ∙ (opened.left
          ∙ agenda_children_at now.scene fn.scene resumes.keeps.code (held_now now) (held_now fn) again c.args.nest new
          c.advance.new.self));
      last =
          λ h.
          let first : AreFirst fn.net.now self.queue.candidates.items = (before.last h).first in
          has_last_at now.scene fn.scene resumes.keeps.code c.args.nest new (held_now now) (held_now fn)
          c.advance.new.self [] again
          (opened.last
          (subst (λ (k : HeldNode). AreFirst k.network after.queue.candidates.items) (sym again)
          (subst (λ (q : Queue). AreFirst fn.net.now q.candidates.items) (sym told.queue) first)));
    }

pub loop-given-smaller : goal.loop-given-smaller
loop-given-smaller c =
    let fn = c.args.site.now in
    let site = c.loop-given.site in
    let now = c.next_of_open.new.site in
    let before = c.loop-given.invariant in
    let told = c.in_ok-given.ensures in
    let given = c.in_ok-given.given in
    let test : is_some given ≡ false = search rules in
    let stays = subst (λ o. StaysUnless o site now) (given_none given test) told.stays in
    let resumes : Resumes fn now =
    resumes_behind fn site now before.resumes (record { keeps = told.keeps; mark = stays }) in
    let again = resumed_node fn now resumes in
    let same = work_at now.scene fn.scene resumes.keeps.code (held_now now) (held_now fn) again in
    let less = c.in_ok-advance.ensures.less in
    let start = ap (work_left (code_in fn.scene) fn.net.now) told.queue in
    omega (arith, less, same c.advance.new.self.queue, same c.next_of_open.new.self.queue, start)
