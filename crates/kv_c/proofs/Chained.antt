-- Writes that were made one behind the other, in both steps.
use Rattle.std.proofs.Common.{◌≡◌, ℕ, true, List, [], ◌∷◌, Option, Some, None, refl, sym, ap, ◌∙◌, subst}
use Rattle.kv_c.specs.Calling.{IsWrite, StaysAs}
use Rattle.kv_c.specs.Chaining.{Accepted, AddWrites, AddsWrite, MakesMore, steps_of}
use Rattle.kv_c.specs.Filing.{is_stopped}
use Rattle.kv_c.specs.Making.{GivesUp, Makes, MakesWrite, Settles, stopped_in}
use Rattle.kv_c.specs.Rows.{AreDone}
use Rattle.kv_c.specs.Waiting.{Waiting, bucket_behind}
use Rattle.kv_c.specs.declared.content.Content.{Content}
use Rattle.kv_c.specs.declared.content.Content.TheVariants.{Bucket, View, Feed, Batch, Made}
use Rattle.kv_c.specs.declared.filed.Filed.{Filed}
use Rattle.kv_c.proofs.Settled.{before, given_up, settled}
use Rattle.kv_model.specs.Acceptance.{accept}
use Rattle.kv_model.specs.Answers.{Revision}
use Rattle.kv_model.specs.Requests.{Asked, asked}
use Rattle.kv_model.specs.State.{State, after_write, answer_write}
use Rattle.kv_model.specs.declared.call.Call.TheVariants as calls
use Rattle.kv_model.specs.declared.request.Request.{Request}
use Rattle.kv_single.specs.Held.{Bucketed, Represents}
use Rattle.kv_single.specs.Stepping.{IsStep}

-- requests that ask for the same are one step alike
alike : (b c : Bucketed) (request : Request) (revision : ℕ) → IsWrite b (asked request) revision c → IsStep b (calls.Write request) (Revision revision) c
alike b c request revision is =
    subst (λ (x : Asked). (state : State) → Represents state b → (Revision revision ≡ answer_write (accept state.config x state.acts)) × Represents (after_write state (accept state.config x state.acts)) c) is.1 is.2

-- what a handle holds behind one more
record More (request : Request) (w : Waiting) (m revision : ℕ) (next : Option Content) : Type 0 where
  waiting : Waiting
  next_is : next ≡ Some (Made waiting m)
  is : MakesMore request w revision waiting

one_more : (request : Request) (w : Waiting) (m revision : ℕ) (next : Option Content) → AddsWrite request (Some (Made w m)) revision next → More request w m revision next
one_more request w m revision None adds = absurd adds
one_more request w m revision (Some (Bucket b f n)) adds = absurd adds
one_more request w m revision (Some (View v n)) adds = absurd adds
one_more request w m revision (Some (Feed f n)) adds = absurd adds
one_more request w m revision (Some (Batch whats)) adds = absurd adds
one_more request w m revision (Some (Made x n)) adds = record { waiting = x; next_is = ap (λ (k : ℕ). Some (Made x k)) adds.0; is = adds.1 }

-- settled, those behind what waits are steps from the bucket behind it
rest_done : (w : Waiting) (m : ℕ) (more : List Accepted) (last new : Option Content) (told : ℕ) → AddWrites (Some (Made w m)) more last → Settles last told new
    → AreDone (Some (Bucket (bucket_behind w) (Some w.filed) m)) (steps_of more) new
rest_done w m [] last new told adds settles =
    let e = (settled w m told new (subst (λ (o : Option Content). Settles o told new) adds settles)).0 in
    e.new_is ∙ ap (λ (b : Bucketed). Some (Bucket b (Some e.filed) m)) e.is_so.0 ∙ ap (λ (f : Filed). Some (Bucket (bucket_behind w) (Some f) m)) e.is_so.1
rest_done w m (one ∷ more) last new told adds settles =
    let x = one_more one.request w m one.revision adds.0 adds.1 in
    let rest = rest_done x.waiting m more last new told (subst (λ (o : Option Content). AddWrites o more last) x.next_is adds.2) settles in
    (Some (Bucket (bucket_behind x.waiting) (Some x.waiting.filed) m), (refl, x.is.step), rest)

-- and the first is told what it answers
rest_told : (w : Waiting) (m : ℕ) (more : List Accepted) (last new : Option Content) (told : ℕ) → AddWrites (Some (Made w m)) more last → Settles last told new → told ≡ w.told
rest_told w m [] last new told adds settles = (settled w m told new (subst (λ (o : Option Content). Settles o told new) adds settles)).1
rest_told w m (one ∷ more) last new told adds settles =
    let x = one_more one.request w m one.revision adds.0 adds.1 in
    rest_told x.waiting m more last new told (subst (λ (o : Option Content). AddWrites o more last) x.next_is adds.2) settles ∙ x.is.told

pub all_done : (first : Request) (more : List Accepted) (old mid last new : Option Content) (told : ℕ) → Makes (MakesWrite first) old mid → AddWrites mid more last → Settles last told new
    → AreDone old (steps_of (record { request = first; revision = told } ∷ more)) new
all_done first more old mid last new told makes adds settles =
    let a = before (MakesWrite first) old mid makes in
    let behind = subst (λ (o : Option Content). AddWrites o more last) a.mid_is adds in
    let rest = rest_done a.waiting a.number more last new told behind settles in
    let number = rest_told a.waiting a.number more last new told behind settles in
    let step = subst (λ (n : ℕ). IsStep a.bucket (calls.Write first) (Revision n) (bucket_behind a.waiting)) (sym number) (alike a.bucket (bucket_behind a.waiting) first a.waiting.told a.is_made.write) in
    subst (λ (o : Option Content). AreDone o (steps_of (record { request = first; revision = told } ∷ more)) new) (sym a.old_is)
    (Some (Bucket (bucket_behind a.waiting) (Some a.waiting.filed) a.number), (refl, step), rest)

-- what a handle holds when they are given up
record Undone (w : Waiting) (m : ℕ) (new : Option Content) : Type 0 where
  filed : Filed
  new_is : new ≡ Some (Bucket w.bucket (Some filed) m)
  stopped : is_stopped filed ≡ true

rest_undone : (w : Waiting) (m : ℕ) (more : List Accepted) (last new : Option Content) → AddWrites (Some (Made w m)) more last → GivesUp last new → Undone w m new
rest_undone w m [] last new adds gives =
    let e = given_up w m new (subst (λ (o : Option Content). GivesUp o new) adds gives) in
    record { filed = e.filed; new_is = e.new_is ∙ ap (λ (b : Bucketed). Some (Bucket b (Some e.filed) m)) e.is_so.0; stopped = ap is_stopped e.is_so.1 }
rest_undone w m (one ∷ more) last new adds gives =
    let x = one_more one.request w m one.revision adds.0 adds.1 in
    let e = rest_undone x.waiting m more last new (subst (λ (o : Option Content). AddWrites o more last) x.next_is adds.2) gives in
    record { filed = e.filed; new_is = e.new_is ∙ ap (λ (b : Bucketed). Some (Bucket b (Some e.filed) m)) x.is.bucket; stopped = e.stopped }

pub all_undone : (first : Request) (more : List Accepted) (old mid last new : Option Content) → Makes (MakesWrite first) old mid → AddWrites mid more last → GivesUp last new → StaysAs old new × (stopped_in new ≡ true)
all_undone first more old mid last new makes adds gives =
    let a = before (MakesWrite first) old mid makes in
    let e = rest_undone a.waiting a.number more last new (subst (λ (o : Option Content). AddWrites o more last) a.mid_is adds) gives in
    let stays = subst (λ (o : Option Content). StaysAs o (Some (Bucket a.waiting.bucket (Some e.filed) a.number))) (sym a.old_is) (refl, a.is_made.waits.bucket) in
    (subst (λ (o : Option Content). StaysAs old o) (sym e.new_is) stays, ap stopped_in e.new_is ∙ e.stopped)
