use Rattle.std.proofs.Common.{◌≡◌, inl, inr, nat_lt, refl, true, false}
use Rattle.std.specs.Prelude.{◌/◌, ◌⊎◌, Bool, if◌then◌else◌}
use Rattle.table_core.specs.Calls.{to}
use Rattle.table_core.specs.declared.call.Answer.TheVariants.{Sized}
use Rattle.table_core.specs.declared.call.CallState.{CallState}
use Rattle.table_core.specs.declared.call.Phase.TheVariants.{AskSize, Done, WantOwned}
use Rattle.table_shared.proofs.Between.{asks_size, carries, taken}
use Rattle.table_shared.proofs.Stepping.{carries_on}
use Rattle.table_shared.proofs.insert.between.Inserting.ask_size.Goals as goal

-- the size was enough, or wasn't
sized : (enough : Bool) (s t : CallState) → t ≡ (if enough then to Done s else to WantOwned s) → (t ≡ to Done s) ⊎ (t ≡ to WantOwned s)
sized true s t is = inl is
sized false s t is = inr is

pub step-self-requires : goal.step-self-requires
step-self-requires g c = record { fits = rw c.requires.phase (c.args.self.now.between.wide (rw c.requires.phase tt)) }

pub invariant_of-self : goal.invariant_of-self
invariant_of-self g c =
    let i = c.args.self.now in
    record { between = asks_size i.between c.step-self.result c.requires.phase (sized (nat_lt c.len-size.result (i.state.capacity / 2)) i.state c.step-self.result (taken AskSize (Sized c.len-size.result) i.state c.step-self.result c.requires.phase c.step-self.ensures.decided)) }

pub returns : goal.returns
returns g c = carries_on g.E.Fn _ _ _ c.step-self.ensures.went (carries c.args.self.now.between AskSize c.requires.phase refl) refl refl
