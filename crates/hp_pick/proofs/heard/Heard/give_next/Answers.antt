use Rattle.std.proofs.Common.{refl}
use Rattle.hp_eval.proofs.SlotLemmas.{binds_self}
use Rattle.hp_pick.proofs.heard.Heard.give_next.Goals as goal

pub returns-then-self-len-clause-sats : goal.returns-then-self-len-clause-sats
returns-then-self-len-clause-sats c = refl

pub returns-then-self-len-clause-kept : goal.returns-then-self-len-clause-kept
returns-then-self-len-clause-kept c = refl

pub returns-then-self-len-clause-live : goal.returns-then-self-len-clause-live
returns-then-self-len-clause-live c = refl

pub returns-then-self-len-clause-open : goal.returns-then-self-len-clause-open
returns-then-self-len-clause-open c = refl

pub returns-then-self-clause-sats : goal.returns-then-self-clause-sats
returns-then-self-clause-sats c = refl

pub returns-then-self-clause-kept : goal.returns-then-self-clause-kept
returns-then-self-clause-kept c = refl

pub returns-then-self-clause-live : goal.returns-then-self-clause-live
returns-then-self-clause-live c = refl

pub returns-then-self-clause-open : goal.returns-then-self-clause-open
returns-then-self-clause-open c = refl

pub returns-clause-sats : goal.returns-clause-sats
returns-clause-sats c = refl

pub returns-clause-kept : goal.returns-clause-kept
returns-clause-kept c = refl

pub returns-clause-live : goal.returns-clause-live
returns-clause-live c = refl

pub returns-clause-open : goal.returns-clause-open
returns-clause-open c = refl

pub returns-then-self-len-clause-above : goal.returns-then-self-len-clause-above
returns-then-self-len-clause-above c = c.fill_all.ensures.above

pub returns-then-self-clause-above : goal.returns-then-self-clause-above
returns-then-self-clause-above c = binds_self c.args.slots.now

pub returns-clause-above : goal.returns-clause-above
returns-clause-above c = binds_self c.args.slots.now

pub returns-then-self-clause-below : goal.returns-then-self-clause-below
returns-then-self-clause-below c = λ h. h

pub returns-clause-below : goal.returns-clause-below
returns-clause-below c = λ h. h
