use Rattle.std.proofs.Common.{◌≡◌, ◌+◌, ◌<◌, [], ◌∷◌, ◌++◌, length, refl, sym, ap, ◌∙◌, subst, arith}
use Rattle.std.proofs.lemmas.List.{length_push}
use Rattle.std.proofs.lemmas.List.Elements.{All-get_or}
use Rattle.std.proofs.lemmas.Option.{slice_get_within}
use Rattle.hp_world.specs.Keyed.{Keyed}
use Rattle.hp_world.specs.Parts.{IsKnownBy}
use Rattle.hp_world.proofs.PartLemmas.{known_by}
use Rattle.hp_world.proofs.WaitingLemmas.{roomier_on, begun, room_for, more_below, more_right}
use Rattle.hp_world.proofs.part_index.PartIndex.prepare.Goals as goal

pub loop-atom-preserved : goal.loop-atom-preserved
loop-atom-preserved c =
    let p : Keyed = c.loop-atom.self in
    let q : Keyed = c.wait-in-loop-atom.new.self in
    let held = c.loop-atom.invariant in
    let got = c.in_ok-wait.ensures in
    let key = c.key_of.result in
    let i = c.loop-atom.atom-index in
    let waits : q.waiting ≡ p.waiting ++ key ∷ [] = got.waits in
    let within : c.atom-item.result < length c.args.cells.now =
    subst (λ a. a < length c.args.cells.now) (sym c.atom-item.is)
    (All-get_or (λ a. a < length c.args.cells.now) c.args.atoms.now i c.atom-item.result c.loop-atom-test.true
    c.requires) in
    let known = known_by c.args.cells.now c.key_of.ensures.cells _ c.atom-item.result key within c.key_of.ensures.key in
    let right : IsKnownBy c.args.cells.now p.part c.atom-item.result key =
    subst (λ (k : Keyed). IsKnownBy c.args.cells.now k.part c.atom-item.result key) c.wait.view_is known in
    record {
      same = roomier_on _ p q held.same got.same;
      count = ap length waits ∙ length_push p.waiting key ∙ ap (λ n. n + 1) held.count;
      below = more_below p q key got.same waits got.below held.below;
      right =
          more_right p q key got.same waits c.args.cells.now c.args.atoms.now i c.atom-item.result held.count
          c.loop-atom-test.true c.atom-item.is right held.right;
    }

pub returns-clause-awaits : goal.returns-clause-awaits
returns-clause-awaits c =
    let held = c.loop-atom.invariant in
    let atoms = c.in_ok-reserve.ensures in
    let chains = c.in_ok-reserve-2.ensures in
    let all : c.loop-atom.atom-index ≡ length c.args.atoms.now = omega arith in
    let aligned = ap length atoms.items ∙ c.self.invariant ∙ sym (ap length chains.entries) in
    record {
      waits = record {
        room =
            room_for
            (record {
              part = c.self.inside.part;
              atoms = c.reserve.new.self;
              chains = c.reserve-2.new.self;
              waiting = c.clear.new.self;
            })
            (length c.args.atoms.now) c.loop-atom.self aligned atoms.ok chains.room held.same;
        number = held.count ∙ all;
        below = held.below;
      };
      right = λ n a e. held.right n a (subst (λ m. n < m) (sym all) (slice_get_within c.args.atoms.now n a e)) e;
    }

pub returns-clause-same : goal.returns-clause-same
returns-clause-same c =
    let atoms = c.in_ok-reserve.ensures in
    let chains = c.in_ok-reserve-2.ensures in
    roomier_on c.args.self.now _ c.loop-atom.self
    (begun c.self.inside
    (record {
      part = c.self.inside.part;
      atoms = c.reserve.new.self;
      chains = c.reserve-2.new.self;
      waiting = c.clear.new.self;
    })
    c.args.self.now c.self.view_is refl atoms.items chains.entries chains.keys atoms.capacity chains.wider)
    c.loop-atom.invariant.same

pub returns-in_err-wait-clause-same : goal.returns-in_err-wait-clause-same
returns-in_err-wait-clause-same c =
    let atoms = c.in_ok-reserve.ensures in
    let chains = c.in_ok-reserve-2.ensures in
    roomier_on c.args.self.now c.loop-atom.self c.wait-in-loop-atom.new.self
    (roomier_on c.args.self.now _ c.loop-atom.self
    (begun c.self.inside
    (record {
      part = c.self.inside.part;
      atoms = c.reserve.new.self;
      chains = c.reserve-2.new.self;
      waiting = c.clear.new.self;
    })
    c.args.self.now c.self.view_is refl atoms.items chains.entries chains.keys atoms.capacity chains.wider)
    c.loop-atom.invariant.same)
    c.wait-in-loop-atom.ensures.same
