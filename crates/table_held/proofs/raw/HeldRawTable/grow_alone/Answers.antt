use Rattle.std.proofs.Common.{arith, ◌<◌, ◌≤◌, ◌*◌, ◌≡◌, ◌∙◌, ◌++◌, [], ◌∷◌, length}
use Rattle.std.proofs.lemmas.List.{length-map}
use Rattle.std.proofs.lemmas.List.Elements.{All-push}
use Rattle.table_generations.specs.Buckets.{shown_all}
use Rattle.table_held.specs.Table.{contents_in}
use Rattle.table_held.proofs.Grown.{grown_kept, grown_table, power_twice}
use Rattle.table_held.proofs.raw.HeldRawTable.grow_alone.Goals as goal

pub rehashed-requires-clause-power : goal.rehashed-requires-clause-power
rehashed-requires-clause-power g c =
    let long : length (shown_all c.self.inside.current.contents) ≡ length c.self.inside.current.contents = length-map _ _ in
    let some : 0 < length (shown_all c.self.inside.current.contents) = rw (← c.self.view_is) at c.requires.some in
    let twice = c.in-Some.ensures.1 in
    power_twice c.self.inside.first_capacity (contents_in c.self.inside.earlier.items) c.self.inside.current.contents c.self.inside.current.size c.self.invariant.0 (omega arith) c.in-Some.doubled (omega arith)

pub invariant_of-self-2 : goal.invariant_of-self-2
invariant_of-self-2 g c =
    let long : length (shown_all c.self.inside.current.contents) ≡ length c.self.inside.current.contents = length-map _ _ in
    let some : 0 < length (shown_all c.self.inside.current.contents) = rw (← c.self.view_is) at c.requires.some in
    let wanted : length (shown_all c.self.inside.current.contents) ≤ 2 * c.self.inside.current.size = rw (← c.self.view_is) at c.requires.wanted in
    let twice = c.in-Some.ensures.1 in
    let pushed : c.push_reserved.new.self.items ≡ c.self.inside.earlier.items ++ c.self.inside.current ∷ [] = rw (← c.replace-old.ensures.value, ← c.reserve.ensures.items) c.push_reserved.ensures.items in
    rw c.replace-old.ensures.after (
      grown_kept c.self.inside.first_capacity c.self.inside.earlier.items c.push_reserved.new.self.items c.self.inside.current c.in_ok-built.built pushed c.self.invariant.0
          (omega arith) (omega arith) (c.in_ok-built.ensures.long ∙ omega arith) c.in_ok-built.ensures.counted c.in_ok-built.ensures.names c.in_ok-built.ensures.rehashed,
      (
        rw pushed (All-push (λ g. g.home ≡ c.self.inside.home.id) c.self.inside.earlier.items c.self.inside.current c.self.invariant.1.0 c.self.invariant.1.1),
        c.in_ok-built.ensures.home.0 ∙ c.self.invariant.1.1,
      ),
    )

pub returns-clause-grown : goal.returns-clause-grown
returns-clause-grown g c =
    let long : length (shown_all c.self.inside.current.contents) ≡ length c.self.inside.current.contents = length-map _ _ in
    let some : 0 < length (shown_all c.self.inside.current.contents) = rw (← c.self.view_is) at c.requires.some in
    let wanted : length (shown_all c.self.inside.current.contents) ≤ 2 * c.self.inside.current.size = rw (← c.self.view_is) at c.requires.wanted in
    let twice = c.in-Some.ensures.1 in
    let pushed : c.push_reserved.new.self.items ≡ c.self.inside.earlier.items ++ c.self.inside.current ∷ [] = rw (← c.replace-old.ensures.value, ← c.reserve.ensures.items) c.push_reserved.ensures.items in
    rw (← c.self.view_is, c.replace-old.ensures.after) (
    grown_table c.self.inside.first_capacity c.self.inside.earlier.items c.push_reserved.new.self.items c.self.inside.current c.in_ok-built.built pushed c.self.invariant.0
    (omega arith) (omega arith) (c.in_ok-built.ensures.long ∙ omega arith) c.in_ok-built.ensures.counted c.in_ok-built.ensures.names c.in_ok-built.ensures.rehashed
    )
