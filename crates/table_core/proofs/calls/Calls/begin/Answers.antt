use Rattle.std.proofs.Common.{◌∙◌, ap, sym, ◌≡◌, ◌==◌, ℕ, List, subst, length, false}
use Rattle.std.specs.Prelude.{nat_eq, cond, Some}
use Rattle.std.specs.HashMap as map
use Rattle.table_core.specs.Calls.{Call, is_used}
use Rattle.table_core.proofs.CodeCalls.{indexed_push}
use Rattle.table_core.proofs.calls.Calls.begin.Goals as goal

pub invariant_of-self-2 : goal.invariant_of-self-2
invariant_of-self-2 g c =
    let it : c.reserve.new.self.items ≡ c.self.inside.all.items = c.in_ok-reserve.ensures.items in
    let n : c.len.result ≡ length c.self.inside.all.items = c.len.ensures ∙ c.in_ok-reserve.ensures.len ∙ c.self.inside.all.ok.0 in
    let u : is_used c.args.number c.self.inside.all.items ≡ false = subst (λ (cs : List Call). is_used c.args.number cs ≡ false) (sym c.self.view_is) c.requires.number in
    let x : (q : ℕ) → map.get nat_eq c.insert.new.self q ≡ cond (c.args.number == q) (Some (length c.self.inside.all.items)) (map.get nat_eq c.self.inside.positions q) =
    λ q. c.in_ok-insert.ensures.updates.0 q ∙ ap (λ k. cond (c.args.number == q) (Some k) (map.get nat_eq c.reserve-2.new.self q)) n
    ∙ ap (cond (c.args.number == q) (Some (length c.self.inside.all.items))) (c.in_ok-reserve-2.ensures.entries.2 q) in
    rw (c.in_ok-push.ensures.items, it)
    (indexed_push c.self.inside.all.items c.self.inside.positions c.insert.new.self c.self.inside.values c.use_value.new.values c.self.inside.sharing c.self.inside.owning _
    c.self.invariant u c.requires.unlocked.0 c.requires.unlocked.1 x c.in_ok-use_value.ensures.ok)
