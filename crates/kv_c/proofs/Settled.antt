-- Calls on a bucket with a file, in both steps.
use Rattle.std.proofs.Common.{◌≡◌, ℕ, true, List, Option, Some, None, refl, sym, ap, ◌∙◌, subst}
use Rattle.kv_c.specs.Batching.{AcceptsAll, batch_of}
use Rattle.kv_c.specs.Calling.{Accepts, IsWrite, StaysAs, Steps}
use Rattle.kv_c.specs.Filing.{is_stopped}
use Rattle.kv_c.specs.Making.{GivesUp, IsGivenUp, IsSettled, Makes, MakesAct, MakesAsked, MakesBatch, MakesGathered, Settles, stopped_in}
use Rattle.kv_c.specs.Waiting.{Waiting, bucket_behind}
use Rattle.kv_c.specs.declared.content.Content.{Content}
use Rattle.kv_c.specs.declared.content.Content.TheVariants.{Bucket, View, Feed, Batch, Made}
use Rattle.kv_c.specs.declared.filed.Filed.{Filed}
use Rattle.kv_model.specs.Acts.{Act}
use Rattle.kv_model.specs.Answers.{Answer}
use Rattle.kv_model.specs.Requests.{Asked}
use Rattle.kv_model.specs.declared.call.Call.{Call}
use Rattle.kv_single.specs.Held.{Bucketed}

-- what a handle held before a call was made
pub record Before (made : Bucketed → Filed → Waiting → Type 0) (old mid : Option Content) : Type 0 where
  pub bucket : Bucketed
  pub filed : Filed
  pub waiting : Waiting
  pub number : ℕ
  pub old_is : old ≡ Some (Bucket bucket (Some filed) number)
  pub mid_is : mid ≡ Some (Made waiting number)
  pub is_made : made bucket filed waiting

before_in : (made : Bucketed → Filed → Waiting → Type 0) (b : Bucketed) (f : Filed) (m : ℕ) (mid : Option Content) → Makes made (Some (Bucket b (Some f) m)) mid → Before made (Some (Bucket b (Some f) m)) mid
before_in made b f m None is = absurd is
before_in made b f m (Some (Bucket c g n)) is = absurd is
before_in made b f m (Some (View v n)) is = absurd is
before_in made b f m (Some (Feed g n)) is = absurd is
before_in made b f m (Some (Batch whats)) is = absurd is
before_in made b f m (Some (Made w n)) is = record {
  bucket = b;
  filed = f;
  waiting = w;
  number = m;
  old_is = refl;
  mid_is = ap (λ (k : ℕ). Some (Made w k)) is.0;
  is_made = is.1;
}

pub before : (made : Bucketed → Filed → Waiting → Type 0) (old mid : Option Content) → Makes made old mid → Before made old mid
before made None mid is = absurd is
before made (Some (Bucket b None m)) mid is = absurd is
before made (Some (View v n)) mid is = absurd is
before made (Some (Feed g n)) mid is = absurd is
before made (Some (Batch whats)) mid is = absurd is
before made (Some (Made w n)) mid is = absurd is
before made (Some (Bucket b (Some f) m)) mid is = before_in made b f m mid is

-- and what it holds when that is over
pub record Behind (ends : Bucketed → Filed → Type 0) (number : ℕ) (new : Option Content) : Type 0 where
  pub bucket : Bucketed
  pub filed : Filed
  pub new_is : new ≡ Some (Bucket bucket (Some filed) number)
  pub is_so : ends bucket filed

pub settled : (w : Waiting) (m told : ℕ) (new : Option Content) → Settles (Some (Made w m)) told new → Behind (IsSettled w) m new × (told ≡ w.told)
settled w m told None is = absurd is
settled w m told (Some (Bucket b None n)) is = absurd is
settled w m told (Some (View v n)) is = absurd is
settled w m told (Some (Feed g n)) is = absurd is
settled w m told (Some (Batch whats)) is = absurd is
settled w m told (Some (Made x n)) is = absurd is
settled w m told (Some (Bucket b (Some f) n)) is = (record { bucket = b; filed = f; new_is = ap (λ (k : ℕ). Some (Bucket b (Some f) k)) is.0; is_so = is.1 }, is.2)

pub given_up : (w : Waiting) (m : ℕ) (new : Option Content) → GivesUp (Some (Made w m)) new → Behind (IsGivenUp w) m new
given_up w m None is = absurd is
given_up w m (Some (Bucket b None n)) is = absurd is
given_up w m (Some (View v n)) is = absurd is
given_up w m (Some (Feed g n)) is = absurd is
given_up w m (Some (Batch whats)) is = absurd is
given_up w m (Some (Made x n)) is = absurd is
given_up w m (Some (Bucket b (Some f) n)) is = record { bucket = b; filed = f; new_is = ap (λ (k : ℕ). Some (Bucket b (Some f) k)) is.0; is_so = is.1 }

-- what was made leads from the bucket before to the one behind
both : (made : Bucketed → Filed → Waiting → Type 0) (leads : Option Content → ℕ → Option Content → Type 0) (old mid new : Option Content) (told : ℕ)
    → ((b : Bucketed) (f g : Filed) (w : Waiting) (m : ℕ) → made b f w → leads (Some (Bucket b (Some f) m)) w.told (Some (Bucket (bucket_behind w) (Some g) m)))
    → Makes made old mid → Settles mid told new → leads old told new
both made leads old mid new told so makes settles =
    let a = before made old mid makes in
    let z = settled a.waiting a.number told new (subst (λ (o : Option Content). Settles o told new) a.mid_is settles) in
    let e = z.0 in
    let there = so a.bucket a.filed e.filed a.waiting a.number a.is_made in
    let c = subst (λ (x : Bucketed). leads (Some (Bucket a.bucket (Some a.filed) a.number)) a.waiting.told (Some (Bucket x (Some e.filed) a.number))) (sym e.is_so.0) there in
    subst (λ (o : Option Content). leads o told new) (sym a.old_is)
    (subst (λ (n : ℕ). leads (Some (Bucket a.bucket (Some a.filed) a.number)) n new) (sym z.1)
    (subst (λ (o : Option Content). leads (Some (Bucket a.bucket (Some a.filed) a.number)) a.waiting.told o) (sym e.new_is) c))

pub write_done : (what : Asked) (old mid new : Option Content) (told : ℕ) → Makes (MakesAsked what) old mid → Settles mid told new → Accepts what old told new
write_done what old mid new told makes settles =
    both (MakesAsked what) (Accepts what) old mid new told (λ b f g w m made. (refl, subst (λ (asked_for : Asked). IsWrite b asked_for w.told (bucket_behind w)) made.1 made.2.write)) makes settles

pub batch_done : (whats : List Asked) (old mid new : Option Content) (told : ℕ) → MakesGathered (Some whats) old mid → Settles mid told new → AcceptsAll (batch_of whats) old told new
batch_done whats old mid new told makes settles =
    both (MakesBatch makes.0) (AcceptsAll (batch_of whats)) old mid new told (λ b f g w m made. (refl, (makes.0, makes.1, made.batch))) makes.2 settles

pub act_done : (call : Call) (answer : Answer) (act : Act) (old mid new : Option Content) (told : ℕ) → Makes (MakesAct call answer act) old mid → Settles mid told new → Steps call answer old new
act_done call answer act old mid new told makes settles =
    both (MakesAct call answer act) (λ o n x. Steps call answer o x) old mid new told (λ b f g w m made. (refl, made.step)) makes settles

-- what was made leaves the bucket as it was, where it is given up
pub undone : (made : Bucketed → Filed → Waiting → Type 0) (old mid new : Option Content) → ((b : Bucketed) (f : Filed) (w : Waiting) → made b f w → w.bucket ≡ b)
    → Makes made old mid → GivesUp mid new → StaysAs old new × (stopped_in new ≡ true)
undone made old mid new same makes gives =
    let a = before made old mid makes in
    let e = given_up a.waiting a.number new (subst (λ (o : Option Content). GivesUp o new) a.mid_is gives) in
    let stays = subst (λ (o : Option Content). StaysAs o (Some (Bucket e.bucket (Some e.filed) a.number))) (sym a.old_is) (refl, e.is_so.0 ∙ same a.bucket a.filed a.waiting a.is_made) in (
      subst (λ (x : Option Content). StaysAs old x) (sym e.new_is) stays,
      ap stopped_in e.new_is ∙ ap is_stopped e.is_so.1,
    )

pub write_undone : (what : Asked) (old mid new : Option Content) → Makes (MakesAsked what) old mid → GivesUp mid new → StaysAs old new × (stopped_in new ≡ true)
write_undone what old mid new = undone (MakesAsked what) old mid new (λ b f w made. made.2.waits.bucket)

pub batch_undone : (whats : List Asked) (old mid new : Option Content) → MakesGathered (Some whats) old mid → GivesUp mid new → StaysAs old new × (stopped_in new ≡ true)
batch_undone whats old mid new makes = undone (MakesBatch makes.0) old mid new (λ b f w made. made.waits.bucket) makes.2

pub act_undone : (call : Call) (answer : Answer) (act : Act) (old mid new : Option Content) → Makes (MakesAct call answer act) old mid → GivesUp mid new → StaysAs old new × (stopped_in new ≡ true)
act_undone call answer act old mid new = undone (MakesAct call answer act) old mid new (λ b f w made. made.waits.bucket)
