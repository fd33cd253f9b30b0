use Rattle.std.proofs.Common.{◌≡◌, ◌∙◌, sym, ap, length, arith}
use Rattle.table_terms.specs.Probes.{bucket_at}
use Rattle.table_generations.specs.Buckets.{shown}
use Rattle.table_generations.proofs.Contents.{length-shown_all, shown_at}
use Rattle.table_generations.proofs.Probes.{passed_more}
use Rattle.table_generations.proofs.fixed.Generation.probe.Goals as goal

pub loop-seen-init : goal.loop-seen-init
loop-seen-init g c =
    let long : c.len-capacity.result ≡ length c.self.inside.row.contents = omega arith in
    let all = long ∙ sym (length-shown_all c.self.inside.row.contents) in
    record {
      below = omega arith;
      at = rw all at c.first_bucket-index.ensures.first;
      passed = record { refused = λ k h. absurd (omega arith) };
    }

pub returns-in-Vacant : goal.returns-in-Vacant
returns-in-Vacant g c =
    let shows = shown_at c.self.inside.row.contents c.loop-seen.index ∙ ap (λ b. shown b.content) (sym c.at.ensures) in
    rw (← c.self.view_is) (record {
      steps = c.loop-seen._seen;
      within = rw length-shown_all (omega arith);
      is = c.loop-seen.invariant.at;
      passed = c.loop-seen.invariant.passed;
      vacant = shows ∙ c.in-Vacant.ensures;
    })

pub returns-in-Accepted : goal.returns-in-Accepted
returns-in-Accepted g c =
    let shows = shown_at c.self.inside.row.contents c.loop-seen.index ∙ ap (λ b. shown b.content) (sym c.at.ensures) in
    rw (← c.self.view_is) (
      record {
        steps = c.loop-seen._seen;
        within = rw length-shown_all (omega arith);
        is = c.loop-seen.invariant.at;
        passed = c.loop-seen.invariant.passed;
        accepted = rw (shows, ← c.bits_of_hash-sought.ensures) c.in-Accepted.ensures.0;
      },
      shows ∙ c.in-Accepted.ensures.1,
    )

pub loop-seen-preserved : goal.loop-seen-preserved
loop-seen-preserved g c =
    let shows = shown_at c.self.inside.row.contents c.loop-seen.index ∙ ap (λ b. shown b.content) (sym c.at.ensures) in
    let long : c.len-capacity.result ≡ length c.self.inside.row.contents = omega arith in
    let all = long ∙ sym (length-shown_all c.self.inside.row.contents) in
    let here : c.loop-seen.index ≡ bucket_at c.len-capacity.result c.args.hash c.loop-seen._seen = rw all c.loop-seen.invariant.at in
    record {
      below = omega arith;
      at = rw all at (c.next_bucket-index.ensures.next c.args.hash c.loop-seen._seen here);
      passed = passed_more _ _ _ _ _ _ _ c.loop-seen.invariant.at shows (rw (← c.bits_of_hash-sought.ensures) c.in-Different.ensures) c.loop-seen.invariant.passed;
    }

pub returns : goal.returns
returns g c =
    let all : c.loop-seen._seen ≡ length c.self.inside.row.contents = omega arith in
    rw (← c.self.view_is, length-shown_all, ← all) c.loop-seen.invariant.passed
