use Rattle.std.proofs.Common.{ℕ, ◌+◌, ◌<◌, ◌≤◌, List, length, arith, refl, ap, subst, ◌∙◌}
use Rattle.table_slab.specs.Counting.{part}
use Rattle.table_slab.specs.Numbering.{chunk_len, IsAt, IsSmall}
use Rattle.table_slab.proofs.Runs.{all_small}
use Rattle.table_slab.proofs.slab.Slab.run_at.Goals as goal

pub returns-clause-of : goal.returns-clause-of
returns-clause-of g c = λ some.
    let at : IsAt c.args.self.now.bits c.number_at.result c.args.place c.in-Some.handed.offset = subst (λ (b : ℕ). IsAt b c.number_at.result c.args.place c.in-Some.handed.offset) c.bits-2.ensures c.number_at.ensures.at in
    let upto : c.usable_len-len.result ≤ chunk_len c.args.self.now.bits c.args.place = subst (λ (b : ℕ). c.usable_len-len.result ≤ chunk_len b c.args.place) c.bits.ensures c.usable_len-len.ensures.within in
    let small : (n o : ℕ) → IsAt c.args.self.now.bits n c.args.place o → o < c.usable_len-len.result → IsSmall n = subst (λ (b : ℕ). (n o : ℕ) → IsAt b n c.args.place o → o < c.usable_len-len.result → IsSmall n) c.bits.ensures c.usable_len-len.ensures.small in
    let within : c.in-Some.handed.offset + c.in-Some.handed.count ≤ c.usable_len-len.result = omega (arith, c.in-Some.ensures.within) in
    record {
      site = c.in_ok-site.site;
      offset = c.in-Some.handed.offset;
      known = refl;
      inside = c.requires.inside;
      small = c.requires.few;
      holds = c.in_ok-site.ensures;
      at = at;
      within = subst (λ (ns : List ℕ). c.in-Some.handed.offset + c.in-Some.handed.count ≤ length ns) c.chunk.ensures c.in-Some.ensures.within.1;
      few = omega (arith, within, upto);
      fits = all_small some within upto at small;
      rooms = c.in-Some.ensures.rooms ∙ ap (λ (ns : List ℕ). part ns c.in-Some.handed.offset c.in-Some.handed.count) c.chunk.ensures;
    }
