-- What holds of an insert between two steps, after each kind of step.
use Rattle.std.proofs.Common.{◌≡◌, ◌≢◌, ◌∙◌, ℕ, Bool, length, true, false, nat_lt, refl, sym, subst, ap, Bor, inl, inr, rules}
use Rattle.std.specs.Prelude.{Option, Some, None, ◌&&◌, ◌<◌, ◌⊎◌}
use Rattle.std.specs.Option.{ForSome}
use Rattle.std.proofs.lemmas.Bool.{ltb-true}
use Rattle.table_generations.specs.Generations.{GenerationView}
use Rattle.table_core.specs.Calls.{decided, fits, stands_at_bucket, to, is_done, finds_entry, insert_start}
use Rattle.table_core.specs.declared.call.Answer.{Answer}
use Rattle.table_core.specs.declared.call.Answer.TheVariants.{Copied, NoGeneration, Taken}
use Rattle.table_core.specs.declared.call.CallState.{CallState}
use Rattle.table_core.specs.declared.call.Outcome.{Outcome}
use Rattle.table_core.specs.declared.call.Outcome.TheVariants.{Pending, New}
use Rattle.table_core.specs.declared.call.Phase.{Phase}
use Rattle.table_core.specs.declared.call.Phase.TheVariants.{WantShared, Shared, Probe, AtEmpty, Placed, LeaveOk, LeaveGrow, LeaveRefused, LeaveOwned, LeaveFailed, AskSize, WantOwned, Owned, Building, Done}
use Rattle.table_core.specs.Phases.{Free, Shares}
use Rattle.table_core.specs.RunningPhases.{Nothing, Inserts, Meets, AtBucket, Hopes, Walks, Leaves, lock_in, reached, reached_by}
use Rattle.table_core.specs.RunningSteps.{Starting, Passing, Leaving, passed}
use Rattle.table_shared.specs.declared.insert.between.Carried.{Carried}
use Rattle.table_shared.specs.declared.insert.between.Carried.TheVariants.{Gone, Value, Own, Met}
use Rattle.table_shared.specs.declared.insert.between.HeldLock.{HeldLock}
use Rattle.table_shared.specs.declared.insert.between.HeldLock.TheVariants as lock
use Rattle.table_shared.specs.Between.{IsBetween, Loads}
use Rattle.table_shared.specs.Carried.{reach_of, value_in, own_in, lock_of, table_in, Wants}
use Rattle.table_shared.specs.Growths.{GrowthView}
use Rattle.table_shared.specs.Reads.{Takes}
use Rattle.table_shared.proofs.Looked.{some_same}
use Rattle.table_shared.proofs.Takes.{passes_entry}

-- a step from a known phase
pub taken : (p : Phase) (a : Answer) (s t : CallState) → s.phase ≡ p → t ≡ decided s.phase s a → t ≡ decided p s a
taken p a s t at is = subst (λ (q : Phase). t ≡ decided q s a) at is

-- a call that copies an entry stays where it stands
pub stays_building : (s t u : CallState) → s ≡ u → u.phase ≡ Building → t ≡ decided s.phase s Copied → t ≡ u
stays_building s t u is at step =
    let building : s.phase ≡ Building = ap (λ (v : CallState). v.phase) is ∙ at in
    taken Building Copied s t building step ∙ (sym (subst (λ (p : Phase). s ≡ to p s) building refl) ∙ is)

-- what holds in the next phase held in this one
pub record Leads (p q : Phase) : Type 0 where
  pub inserts : Inserts q
  pub hopes : Hopes q → Hopes p
  pub stands : AtBucket q → AtBucket p
  pub walks : Walks q → Walks p

-- an insert that can meet an entry: it walks a generation and isn't over, has no outcome yet and holds
-- the lock shared, and has reached what its outcome says
record CanMeet (p : Phase) : Type 0 where
  walks : Walks p
  begun : is_done p ≡ false
  hopes : Hopes p
  shares : lock_in p ≡ Shares
  reached_is : (o : Outcome) → reached p o ≡ reached_by o

can_meet : (p : Phase) → Meets p → CanMeet p
can_meet Probe m = record { walks = tt; begun = refl; hopes = tt; shares = refl; reached_is = λ o. refl }
can_meet AtEmpty m = record { walks = tt; begun = refl; hopes = tt; shares = refl; reached_is = λ o. refl }
can_meet _ m = absurd m

and_left : (a b : Bool) → (a && b) ≡ true → a ≡ true
and_left true b e = refl
and_left false b e = e

and_right : (a b : Bool) → (a && b) ≡ true → b ≡ true
and_right true b e = e
and_right false b e = absurd (cc)

-- an insert that releases its lock isn't over
leaves_begun : (p : Phase) → Leaves p → is_done p ≡ false
leaves_begun LeaveOk m = refl
leaves_begun LeaveGrow m = refl
leaves_begun LeaveRefused m = refl
leaves_begun LeaveOwned m = refl
leaves_begun LeaveFailed m = refl
leaves_begun _ m = absurd m

-- nor is one that wants a lock
wants_begun : (p : Phase) (h : HeldLock) → Wants p (lock_of h) → is_done p ≡ false
wants_begun WantShared h w = refl
wants_begun WantOwned h w = refl
wants_begun _ h w = absurd w

-- the lock that is wanted can be taken
pub wants_fits : (s : CallState) (h : HeldLock) → Wants s.phase (lock_of h) → fits s.phase s Taken ≡ true
wants_fits s h w = fits_in s.phase w
  where
    fits_in : (p : Phase) → Wants p (lock_of h) → fits p s Taken ≡ true
    fits_in WantShared w = refl
    fits_in WantOwned w = refl
    fits_in _ w = absurd w

-- a call that stands at a bucket has an index below the capacity
pub index_within : (s : CallState) → stands_at_bucket s ≡ true → s.index < s.capacity
index_within s stands = ltb-true s.index s.capacity (and_left (nat_lt s.index s.capacity) (nat_lt s.seen s.capacity) stands)

-- and has seen fewer buckets than that
pub seen_within : (s : CallState) → stands_at_bucket s ≡ true → s.seen < s.capacity
seen_within s stands = ltb-true s.seen s.capacity (and_right (nat_lt s.index s.capacity) (nat_lt s.seen s.capacity) stands)

-- who has reached nothing carries the value
value_told : {V R : Type 0} (c : Carried V R) → reach_of c ≡ Some Nothing → (v : V) × (c ≡ Value v)
value_told Gone e = absurd (cc)
value_told (Value v) e = (v, refl)
value_told (Own r) e = absurd (cc)
value_told (Met r v) e = absurd (cc)

-- an insert that has taken no step
pub begins : {A V X : Type 0} (home : ℕ) (target : V → X) (given v : V) (hash : ℕ) → v ≡ given → IsBetween {A = A} home target given (insert_start hash) None None (Value v) lock.Nothing
begins home target given v hash is = record {
  inserts = refl;
  hopes = λ _. refl;
  stands = λ x. absurd x;
  wide = λ x. absurd x;
  walks = λ x. absurd x;
  counts = λ x e. absurd (cc);
  homes = λ x e. absurd (cc);
  locks = refl;
  of_table = λ x e. absurd (cc);
  builds = λ e. absurd (cc);
  grows = λ x e. absurd (cc);
  there = λ _ e. absurd (cc);
  tells = λ _. refl;
  stems = λ u e. sym (some_same v u e) ∙ is;
  owns = λ r e. absurd (cc);
}

-- a call that takes its first lock
pub begun_phase : (hash : ℕ) (s t : CallState) → s ≡ insert_start hash → t ≡ decided s.phase s Taken → t.phase ≡ Shared
begun_phase hash s t is e = ap (λ (u : CallState). u.phase) (e ∙ ap (λ (u : CallState). decided u.phase u Taken) is)

pub begun_outcome : (hash : ℕ) (s t : CallState) → s ≡ insert_start hash → t ≡ decided s.phase s Taken → t.outcome ≡ Pending
begun_outcome hash s t is e = ap (λ (u : CallState). u.outcome) (e ∙ ap (λ (u : CallState). decided u.phase u Taken) is)

module _ {A V X : Type 0} {home : ℕ} {target : V → X} {given : V} {s : CallState} {generation : Option (Bor (GenerationView A V))}
    {growth : Option (GrowthView V)} {carried : Carried V (Bor X)} {held : HeldLock} (b : IsBetween home target given s generation growth carried held) where
  -- the same of a state whose parts are written out
  pub spelt_out : (t : CallState) → t ≡ s → IsBetween home target given t generation growth carried held
  spelt_out t is = subst (λ (u : CallState). IsBetween home target given u generation growth carried held) (sym is) b

  -- an insert that isn't over carries something
  pub carries : (p : Phase) → s.phase ≡ p → is_done p ≡ false → carried ≢ Gone
  carries p at begun = b.there (λ over. absurd (let done : is_done Done ≡ false = subst (λ (r : Phase). is_done r ≡ false) (sym at ∙ over) begun in cc))

  pub meets_carries : Meets s.phase → carried ≢ Gone
  meets_carries meets = carries s.phase refl (can_meet s.phase meets).begun

  pub leaves_carries : Leaves s.phase → carried ≢ Gone
  leaves_carries leaves = carries s.phase refl (leaves_begun s.phase leaves)

  pub wants_carries : (h : HeldLock) → Wants s.phase (lock_of h) → carried ≢ Gone
  wants_carries h wants = carries s.phase refl (wants_begun s.phase h wants)

  -- an insert that can meet an entry carries its value
  pub holds_value : Meets s.phase → (v : V) × (carried ≡ Value v)
  holds_value meets =
      let nothing : reached s.phase s.outcome ≡ Nothing = (can_meet s.phase meets).reached_is s.outcome ∙ ap reached_by (b.hopes (can_meet s.phase meets).hopes) in
      value_told carried (b.tells (meets_carries meets) ∙ ap Some nothing)

  -- the lock that is held in a known phase
  pub keeps_lock : (p : Phase) → s.phase ≡ p → lock_of held ≡ lock_in p
  keeps_lock p at = b.locks ∙ ap lock_in at

  -- the bucket of an insert is one of the generation that it walks
  pub within : (x : Bor (GenerationView A V)) → generation ≡ Some x → AtBucket s.phase → s.index < length x.now.contents
  within x is at = subst (λ (n : ℕ). s.index < n) (sym (b.counts x is)) (index_within s (b.stands at))

  -- what an insert carries, that goes to another phase
  pub record Bears (q : Phase) (bearing : Carried V (Bor X)) : Type 0 where
    pub there : bearing ≢ Gone
    pub tells : reach_of bearing ≡ Some (reached q s.outcome)
    pub stems : ForSome (value_in bearing) (λ v. v ≡ given)
    pub owns : ForSome (own_in bearing) (λ r. r.now ≡ target given)

  -- it carries what it carried
  pub bears : (p q : Phase) → s.phase ≡ p → is_done p ≡ false → reached p s.outcome ≡ reached q s.outcome → Bears q carried
  bears p q at begun same = record {
    there = carries p at begun;
    tells = b.tells (carries p at begun) ∙ ap Some (ap (λ (r : Phase). reached r s.outcome) at ∙ same);
    stems = b.stems;
    owns = b.owns;
  }

  -- an insert that goes to another phase
  pub goes : (p q : Phase) (t : CallState) (making : Option (GrowthView V)) (bearing : Carried V (Bor X)) (holding : HeldLock) → s.phase ≡ p → t ≡ to q s → Leads p q → Bears q bearing
      → lock_of holding ≡ lock_in q → ForSome (table_in holding) (λ h. h ≡ home) → (q ≡ Building → making ≢ None) → ForSome making (λ g. g.home ≡ home) → IsBetween home target given t generation making bearing holding
  goes p q t making bearing holding at is leads bears locks of_table builds grows =
      subst (λ (u : CallState). IsBetween home target given u generation making bearing holding) (sym is) (record {
        inserts = leads.inserts;
        hopes = λ x. b.hopes (subst Hopes (sym at) (leads.hopes x));
        stands = λ x. b.stands (subst AtBucket (sym at) (leads.stands x));
        wide = λ x. b.wide (subst Walks (sym at) (leads.walks x));
        walks = λ x. b.walks (subst Walks (sym at) (leads.walks x));
        counts = b.counts;
        homes = b.homes;
        locks = locks;
        of_table = of_table;
        builds = builds;
        grows = grows;
        there = λ _. bears.there;
        tells = λ _. bears.tells;
        stems = bears.stems;
        owns = bears.owns;
      })

  -- an insert that takes the lock that it wants
  pub takes : (t : CallState) (holding : HeldLock) → Wants s.phase (lock_of holding) → ForSome (table_in holding) (λ h. h ≡ home) → t ≡ decided s.phase s Taken → IsBetween home target given t generation growth carried holding
  takes t holding wants of_table is = takes_in s.phase refl wants is
    where
      takes_in : (p : Phase) → s.phase ≡ p → Wants p (lock_of holding) → t ≡ decided p s Taken → IsBetween home target given t generation growth carried holding
      takes_in WantShared at w e = goes WantShared Shared t growth carried holding at e (search rules) (bears WantShared Shared at refl refl) w of_table (λ x. absurd (cc)) b.grows
      takes_in WantOwned at w e = goes WantOwned Owned t growth carried holding at e (search rules) (bears WantOwned Owned at refl refl) w of_table (λ x. absurd (cc)) b.grows
      takes_in _ at w e = absurd w

  -- an insert that holds the lock shared isn't over
  pub shares_on : lock_of held ≡ Shares → s.phase ≢ Done
  shares_on shares e = absurd (let free : Free ≡ Shares = sym (b.locks ∙ ap lock_in e) ∙ shares in cc)

  -- an insert that keeps what it carries, and holds its lock still
  pub goes_on : (p q : Phase) (t : CallState) (making : Option (GrowthView V)) → s.phase ≡ p → t ≡ to q s → Leads p q → is_done p ≡ false → reached p s.outcome ≡ reached q s.outcome → lock_in p ≡ lock_in q
      → (q ≡ Building → making ≢ None) → ForSome making (λ g. g.home ≡ home) → IsBetween home target given t generation making carried held
  goes_on p q t making at is leads begun same lock builds grows = goes p q t making carried held at is leads (bears p q at begun same) (keeps_lock p at ∙ lock) b.of_table builds grows

  -- an insert that stands at an empty bucket
  pub finds_empty : (t : CallState) → s.phase ≡ Probe → t ≡ to AtEmpty s → IsBetween home target given t generation growth carried held
  finds_empty t at is = goes_on Probe AtEmpty t growth at is (search rules) refl refl refl (λ e. absurd (cc)) b.grows

  -- an insert that passes an entry
  pub passes : (t : CallState) → Meets s.phase → Passing s t → IsBetween home target given t generation growth carried held
  passes t meets passing = record {
    inserts = passing.inserts;
    hopes = λ _. passing.pending;
    stands = passing.stands;
    wide = passing.wide;
    walks = λ _. b.walks (can_meet s.phase meets).walks;
    counts = λ x is. b.counts x is ∙ sym passing.same.1;
    homes = b.homes;
    locks = b.locks ∙ (can_meet s.phase meets).shares ∙ sym passing.lock;
    of_table = b.of_table;
    builds = λ building. absurd (passing.not_building building);
    grows = b.grows;
    there = λ _. meets_carries meets;
    tells = λ x. b.tells x ∙ ap Some ((can_meet s.phase meets).reached_is s.outcome ∙ sym passing.reached);
    stems = b.stems;
    owns = b.owns;
  }

  -- what it does that passes an entry of its probe
  pub passes_probed : (t : CallState) (asked : Bool) → s.phase ≡ Probe → Takes s t (passed asked) → Passing s t
  passes_probed t asked at takes = passes_entry s t asked (subst Meets (sym at) tt) (b.stands (subst AtBucket (sym at) tt)) (b.hopes (subst Hopes (sym at) tt)) takes

  -- an insert that accepts an entry keeps its target beside the value
  pub accepts : (t : CallState) (r : Bor X) (v : V) → Meets s.phase → t ≡ finds_entry LeaveOk s → v ≡ given → IsBetween home target given t generation growth (Met r v) held
  accepts t r v meets is from =
      subst (λ (u : CallState). IsBetween home target given u generation growth (Met r v) held) (sym is) (record {
        inserts = refl;
        hopes = λ x. absurd x;
        stands = λ x. absurd x;
        wide = λ _. b.wide (can_meet s.phase meets).walks;
        walks = λ _. b.walks (can_meet s.phase meets).walks;
        counts = b.counts;
        homes = b.homes;
        locks = b.locks ∙ (can_meet s.phase meets).shares;
        of_table = b.of_table;
        builds = λ e. absurd (cc);
        grows = b.grows;
        there = λ _ e. absurd (cc);
        tells = λ _. refl;
        stems = λ u e. sym (some_same v u e) ∙ from;
        owns = λ u e. absurd (cc);
      })

  -- what an insert carries that has its value still
  bears_value : (q : Phase) (v : V) → reached q s.outcome ≡ reached_by s.outcome → s.outcome ≡ Pending → v ≡ given → Bears q (Value v)
  bears_value q v same pending from = record {
    there = λ e. absurd (cc);
    tells = sym (ap Some (same ∙ ap reached_by pending));
    stems = λ u e. sym (some_same v u e) ∙ from;
    owns = λ r e. absurd (cc);
  }

  -- an insert whose value is in the bucket
  pub wins : (t : CallState) (r : Bor X) → s.phase ≡ AtEmpty → t ≡ to Placed s → r.now ≡ target given → IsBetween home target given t generation growth (Own r) held
  wins t r at is own =
      goes AtEmpty Placed t growth (Own r) held at is (search rules)
      (record {
        there = λ e. absurd (cc);
        tells = refl;
        stems = λ v e. absurd (cc);
        owns = λ x e. ap (λ (y : Bor X). y.now) (sym (some_same r x e)) ∙ own;
      })
      (keeps_lock AtEmpty at) b.of_table (λ e. absurd (cc)) b.grows

  -- an insert whose memory was refused has its value again
  pub has_back : (t : CallState) (v : V) → s.phase ≡ AtEmpty → t ≡ to LeaveRefused s → v ≡ given → IsBetween home target given t generation growth (Value v) held
  has_back t v at is from =
      goes AtEmpty LeaveRefused t growth (Value v) held at is (search rules)
      (bears_value LeaveRefused v refl (b.hopes (subst Hopes (sym at) tt)) from) (keeps_lock AtEmpty at) b.of_table (λ e. absurd (cc)) b.grows

  -- an insert that lost its exchange stands where it stood, and has its value again
  pub loses : (v : V) → s.phase ≡ AtEmpty → v ≡ given → IsBetween home target given s generation growth (Value v) held
  loses v at from =
      goes AtEmpty AtEmpty s growth (Value v) held at (subst (λ (p : Phase). s ≡ to p s) at refl) (search rules)
      (bears_value AtEmpty v refl (b.hopes (subst Hopes (sym at) tt)) from) (keeps_lock AtEmpty at) b.of_table (λ e. absurd (cc)) b.grows

  -- an insert that finds no generation
  pub finds_none : (t : CallState) → s.phase ≡ Shared → t ≡ record s { phase = LeaveGrow; walked = None } → IsBetween {A = A} home target given t None growth carried held
  finds_none t at is =
      subst (λ (u : CallState). IsBetween {A = A} home target given u None growth carried held) (sym is) (record {
        inserts = refl;
        hopes = λ _. b.hopes (subst Hopes (sym at) tt);
        stands = λ x. absurd x;
        wide = λ x. absurd x;
        walks = λ x. absurd x;
        counts = λ x e. absurd (cc);
        homes = λ x e. absurd (cc);
        locks = keeps_lock Shared at;
        of_table = b.of_table;
        builds = λ e. absurd (cc);
        grows = b.grows;
        there = λ _. carries Shared at refl;
        tells = λ x. b.tells x ∙ ap Some (ap (λ (r : Phase). reached r s.outcome) at);
        stems = b.stems;
        owns = b.owns;
      })

  -- an insert that starts its probe in this generation
  pub starts : (t : CallState) (number : ℕ) (x : Bor (GenerationView A V)) → s.phase ≡ Shared → t.phase ≡ Probe → Starting s t number (length x.now.contents) → x.now.home ≡ home
      → IsBetween home target given t (Some x) growth carried held
  starts t number x at on starting home_is = record {
    inserts = subst Inserts (sym on) refl;
    hopes = λ _. starting.walked.2 ∙ b.hopes (subst Hopes (sym at) tt);
    stands = λ _. starting.stands;
    wide = λ _. starting.wide;
    walks = λ _ e. absurd (cc);
    counts = λ y e. ap (λ (z : Bor (GenerationView A V)). length z.now.contents) (sym (some_same x y e)) ∙ sym starting.walked.1;
    homes = λ y e. ap (λ (z : Bor (GenerationView A V)). z.now.home) (sym (some_same x y e)) ∙ home_is;
    locks = keeps_lock Shared at ∙ sym (ap lock_in on);
    of_table = b.of_table;
    builds = λ e. absurd (cc);
    grows = b.grows;
    there = λ _. carries Shared at refl;
    tells = λ y. b.tells y ∙ ap Some (ap (λ (r : Phase). reached r s.outcome) at ∙ sym (ap (λ (r : Phase). reached r t.outcome) on ∙ ap reached_by starting.walked.2));
    stems = b.stems;
    owns = b.owns;
  }

  -- an insert that loads the current generation
  pub loads : (w : Option (Bor (GenerationView A V))) (t : CallState) → s.phase ≡ Shared → Loads home s w t → IsBetween home target given t w growth carried held
  loads None t at none = finds_none t at (taken Shared NoGeneration s t at none)
  loads (Some g) t at into = starts t into.number g at (into.insert at) into.starting into.homes

  -- an insert that counts its value
  pub counts_value : (t : CallState) → s.phase ≡ Placed → t ≡ record s { phase = LeaveOk; outcome = New s.index } → IsBetween home target given t generation growth carried held
  counts_value t at is =
      subst (λ (u : CallState). IsBetween home target given u generation growth carried held) (sym is) (record {
        inserts = refl;
        hopes = λ x. absurd x;
        stands = λ x. absurd x;
        wide = λ _. b.wide (subst Walks (sym at) tt);
        walks = λ _. b.walks (subst Walks (sym at) tt);
        counts = b.counts;
        homes = b.homes;
        locks = keeps_lock Placed at;
        of_table = b.of_table;
        builds = λ e. absurd (cc);
        grows = b.grows;
        there = λ _. carries Placed at refl;
        tells = λ x. b.tells x ∙ ap Some (ap (λ (r : Phase). reached r s.outcome) at);
        stems = b.stems;
        owns = b.owns;
      })

  -- an insert that has asked for the size
  pub asks_size : (t : CallState) → s.phase ≡ AskSize → (t ≡ to Done s) ⊎ (t ≡ to WantOwned s) → IsBetween home target given t generation growth carried held
  asks_size t at (inl is) = goes_on AskSize Done t growth at is (search rules) refl refl refl (λ e. absurd (cc)) b.grows
  asks_size t at (inr is) = goes_on AskSize WantOwned t growth at is (search rules) refl refl refl (λ e. absurd (cc)) b.grows

  -- an insert that begins no growth
  pub begins_none : (t : CallState) → s.phase ≡ Owned → (t ≡ to LeaveOwned s) ⊎ (t ≡ to LeaveFailed s) → IsBetween home target given t generation growth carried held
  begins_none t at (inl is) = goes_on Owned LeaveOwned t growth at is (search rules) refl refl refl (λ e. absurd (cc)) b.grows
  begins_none t at (inr is) = goes_on Owned LeaveFailed t growth at is (search rules) refl refl refl (λ e. absurd (cc)) b.grows

  -- an insert that releases its lock
  pub lets_go : (t : CallState) → Leaves s.phase → Leaving s t → IsBetween home target given t generation growth carried lock.Nothing
  lets_go t leaves leaving = record {
    inserts = leaving.inserts;
    hopes = leaving.pending;
    stands = λ x. absurd (leaving.at_no_bucket x);
    wide = leaving.wide;
    walks = λ x. b.walks (leaving.walks x);
    counts = λ x e. b.counts x e ∙ sym leaving.same.1;
    homes = b.homes;
    locks = sym leaving.lock;
    of_table = λ x e. absurd (cc);
    builds = λ e. absurd (leaving.not_building e);
    grows = b.grows;
    there = λ _. leaves_carries leaves;
    tells = λ x. b.tells x ∙ ap Some (sym leaving.reached);
    stems = b.stems;
    owns = b.owns;
  }

  -- an insert with an outcome releases its lock, and asks for the size
  pub leaves_to_ask : (t : CallState) → s.phase ≡ LeaveOk → t ≡ to AskSize s → IsBetween home target given t generation growth carried lock.Nothing
  leaves_to_ask t at is =
      goes LeaveOk AskSize t growth carried lock.Nothing at is (search rules)
      (bears LeaveOk AskSize at refl refl) refl (λ x e. absurd (cc)) (λ e. absurd (cc)) b.grows

-- an insert that has taken its first lock
pub begins_shared : {A V X : Type 0} (home : ℕ) (target : V → X) (given v : V) (hash : ℕ) (s t : CallState) (holding : HeldLock) → s ≡ insert_start hash → v ≡ given → lock_of holding ≡ Shares → ForSome (table_in holding) (λ h. h ≡ home) → t ≡ decided s.phase s Taken
    → IsBetween {A = A} home target given t None None (Value v) holding
begins_shared {A} home target given v hash s t holding is from shares of_table e =
    takes (subst (λ (u : CallState). IsBetween {A = A} home target given u None None (Value v) lock.Nothing) (sym is) (begins {A = A} home target given v hash from)) t holding
    (subst (λ (u : CallState). Wants u.phase (lock_of holding)) (sym is) shares) of_table e
