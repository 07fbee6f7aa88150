-- A write that is made behind what waits for the shell.
use Rattle.std.proofs.Common.{◌≡◌, ℕ, ◌+◌, ◌≤◌, List, [], ◌∷◌, ◌++◌, Option, Some, None, length, true, false, refl, sym, ap, ◌∙◌, subst, arith, append_assoc}
use Rattle.std.specs.Prelude.{map, nat_le}
use Rattle.std.proofs.lemmas.Bool.{and_parts, leb-true, or_parts}
use Rattle.kv_durable.specs.Journals as journals
use Rattle.kv_c.specs.Chaining.{IsFrameBehind, Joins, MakesMore, durable_behind, takes_more, told_behind}
use Rattle.kv_c.specs.Filing.{is_stopped}
use Rattle.kv_c.specs.Lending.{lends, never_fails}
use Rattle.kv_c.specs.Waiting.{Leads, Waiting, bucket_behind, gone_on}
use Rattle.kv_c.specs.declared.filed.Filed.{Filed}
use Rattle.kv_c.specs.declared.made.Ready.{Ready}
use Rattle.kv_durable.specs.Bases.{acts_before}
use Rattle.kv_durable.specs.Durables.{Accepts, IsAt, act_of}
use Rattle.kv_durable.proofs.Recording.{all_added, lawful_behind, none_loose}
use Rattle.kv_durable.proofs.Steps.{write_steps}
use Rattle.kv_durable.proofs.Written.{accepted_from, told_by, told_write}
use Rattle.kv_file.specs.Adding.{Adds}
use Rattle.kv_file.specs.declared.appender.Sync.TheVariants.{Each}
use Rattle.kv_frames.specs.Frames.{ArePayloads, IsPayload, frames}
use Rattle.kv_journal.specs.Entries.{AreLawful, Entry, acts_of, payload_of, payloads_of}
use Rattle.kv_journal.specs.Records.{Content, did}
use Rattle.kv_journal.proofs.Going.{acts_of-append}
use Rattle.kv_model.specs.Acceptance.{IsLawful, accept}
use Rattle.kv_model.specs.Acts.{Act, Wrote, Write, writes_of}
use Rattle.kv_model.specs.Answers.{Revision}
use Rattle.kv_model.specs.Configuration.{Configuration}
use Rattle.kv_model.specs.Requests.{asked, write_for}
use Rattle.kv_model.specs.Runs.{run}
use Rattle.kv_model.specs.State.{State, add_act, after, after_write}
use Rattle.kv_model.specs.declared.call.Call.TheVariants as calls
use Rattle.kv_model.specs.declared.request.Request.{Request}
use Rattle.kv_model.proofs.Numbered.{accepted_is_next}
use Rattle.kv_model.proofs.Others.{run-append}
use Rattle.kv_single.specs.Held.{Bucketed, Represents}
use Rattle.kv_single.specs.Stepping.{IsStep}
use Rattle.kv_store.specs.Stored.{Stored}

-- the frame of what is told behind what waits
pub frame_is_behind : (filed : Filed) (waiting loose : ℕ) (content : Content) (payload bytes : List ℕ) → loose ≡ waiting → payload ≡ payload_of (record { loose = loose; content = content }) → IsPayload payload
    → bytes ≡ frames filed.journal.value.framing.seed filed.journal.value.appender.offset (payload ∷ []) → IsFrameBehind filed waiting content bytes
frame_is_behind filed waiting loose content payload bytes same is fits framed =
    let own : payload ≡ payload_of (record { loose = waiting; content = content }) = is ∙ ap (λ (n : ℕ). payload_of (record { loose = n; content = content })) same in
    record {
      are = framed ∙ ap (λ (p : List ℕ). frames filed.journal.value.framing.seed filed.journal.value.appender.offset (p ∷ [])) own;
      payload = subst IsPayload own fits;
    }

-- what goes on has not failed
pub not_failed : (filed : Filed) → is_stopped filed ≡ false → filed.has_failed ≡ false
not_failed filed goes = (or_parts filed.has_failed (journals.is_stopped never_fails filed.journal.value) goes).0

-- what takes more has no more than 16 MiB
pub few_wait : (waiting : Waiting) → takes_more waiting ≡ true → length waiting.bytes ≤ 16777216
few_wait waiting takes = leb-true (length waiting.bytes) 16777216 (and_parts waiting.joins (nat_le (length waiting.bytes) 16777216) takes).1

-- a bucket that has gone on goes on
gone_on_again : (b : Bucketed) (next : Option Stored) (v : Stored) → record (gone_on b next) { version = v } ≡ record b { version = v }
gone_on_again b None v = refl
gone_on_again b (Some u) v = refl

-- what is accepted at the version behind what waits is accepted by the bucket behind it
pub accepts_behind : (waiting : Waiting) (version : Stored) (request : Request) (next : Stored) → version ≡ (bucket_behind waiting).version → Accepts (record waiting.bucket { version = version }) request next
    → Accepts (bucket_behind waiting) request next
accepts_behind waiting version request next is accepts = subst (λ (v : Stored). Accepts (record waiting.bucket { version = v }) request next) is accepts

-- and what the one represents, the other does
pub represents_behind : (waiting : Waiting) (version : Stored) (state : State) → version ≡ (bucket_behind waiting).version → Represents state (bucket_behind waiting) → Represents state (record waiting.bucket { version = version })
represents_behind waiting version state is r =
    subst (λ (v : Stored). Represents state (record waiting.bucket { version = v })) (sym is) (here waiting.bucket waiting.next r)
  where
    here : (b : Bucketed) (n : Option Stored) → Represents state (gone_on b n) → Represents state (record b { version = (gone_on b n).version })
    here b None s = s
    here b (Some u) s = s

module _ (waiting : Waiting) (request : Request) (version : Stored) (config : version.config ≡ (bucket_behind waiting).version.config) (accepts : Accepts (bucket_behind waiting) request version) where
  -- calls of the model lead to it too
  pub leads_behind : Leads waiting.bucket waiting.next → Leads waiting.bucket (Some version)
  leads_behind leads = (
    leads.0 ++ calls.Write request ∷ [],
    λ state r.
        let there = run state leads.0 in
        let step = (write_steps (bucket_behind waiting) request version.last version config accepts refl there (leads.1 state r)).1 in
        subst (λ (s : State). Represents s (record waiting.bucket { version = version })) (sym (run-append state leads.0 (calls.Write request ∷ [])))
        (subst (λ (b : Bucketed). Represents (after there (calls.Write request)) b) (gone_on_again waiting.bucket waiting.next version) step),
  )

module _ (ready : Ready) (old new : Waiting) (joins : Joins ready old new) (request : Request) (config : ready.next.config ≡ (bucket_behind old).version.config) (accepts : Accepts (bucket_behind old) request ready.next)
    (frame : (revision : ℕ) → IsFrameBehind old.filed (length old.bytes) (did (Wrote (write_for (asked request) revision))) ready.frames.items) (few : length old.bytes ≤ 16777216) where
  behind : bucket_behind new ≡ record (bucket_behind old) { version = ready.next }
  behind = ap (λ (b : Bucketed). gone_on b new.next) joins.bucket ∙ ap (λ n. gone_on old.bucket n) joins.next ∙ sym (gone_on_again old.bucket old.next ready.next)

  -- the act that is told from a state
  abbrev act : State → Act
  act state = Wrote (write_for (asked request) (length (writes_of state.acts) + 1))

  record IsTold (state : State) : Type 0 where
    are : ready.frames.items ≡ frames old.filed.journal.value.framing.seed old.filed.journal.value.appender.offset (payloads_of (told_behind old (told_by request state)))
    lawful : AreLawful state.config state.acts (told_behind old (told_by request state))
    payloads : ArePayloads (payloads_of (told_behind old (told_by request state)))
    one : length (told_behind old (told_by request state)) ≤ 1
    same : (after state (calls.Write request)).config ≡ state.config
    acts : (after state (calls.Write request)).acts ≡ state.acts ++ acts_of (told_behind old (told_by request state))
    represents : Represents (after state (calls.Write request)) (bucket_behind new)

  told : (state : State) → Represents state (bucket_behind old) → IsTold state
  told state r =
      let w = accepted_from (bucket_behind old) request ready.next state accepts r in
      let next = accepted_is_next state.config (asked request) state.acts w.0 w.1.0 in
      let later = after state (calls.Write request) in
      let here : later ≡ add_act (Wrote w.0) state = ap (after_write state) w.1.0 in
      let step = (write_steps (bucket_behind old) request ready.next.last ready.next config accepts refl state r).1 in
      let represents : Represents later (bucket_behind new) = subst (Represents later) (sym behind) step in
      let same : later.config ≡ state.config = ap (λ (s : State). s.config) here in
      let acts : later.acts ≡ state.acts ++ act state ∷ [] = ap (λ (s : State). s.acts) here ∙ ap (λ (v : Write). state.acts ++ Wrote v ∷ []) (sym next) in
      let back : did (act state) ∷ [] ≡ told_by request state = sym (told_write (bucket_behind old) request ready.next state accepts r) in
      let own = frame (length (writes_of state.acts) + 1) in
      let all = subst (λ (c : Configuration). IsLawful c (state.acts ++ act state ∷ [])) (represents.config ∙ same) (subst (IsLawful (bucket_behind new).version.config) acts represents.version.lawful) in
      let accepted = (lawful_behind state.config [] state.acts (act state ∷ []) all).0 in
      record {
        are = subst (λ (cs : List Content). ready.frames.items ≡ frames old.filed.journal.value.framing.seed old.filed.journal.value.appender.offset (payloads_of (told_behind old cs))) back own.are;
        lawful = subst (λ (cs : List Content). AreLawful state.config state.acts (told_behind old cs)) back ((omega (arith, few), accepted), tt);
        payloads = subst (λ (cs : List Content). ArePayloads (payloads_of (told_behind old cs))) back (own.payload, tt);
        one = subst (λ (cs : List Content). length (told_behind old cs) ≤ 1) back (omega arith);
        same = same;
        acts = acts ∙ ap (λ (cs : List Content). state.acts ++ acts_of (told_behind old cs)) back;
        represents = represents;
      }

  recorded : (state : State) (kept loose : List Entry) (at : IsAt lends never_fails state kept loose (durable_behind old)) →
      (k : List Entry) × (l : List Entry) × Adds kept loose (told_behind old (map did (act_of (accept state.config (asked request) state.acts)))) k l
      × (old.filed.journal.value.appender.sync ≡ Each → l ≡ [])
      × (next : IsAt lends never_fails (after state (calls.Write request)) k l (durable_behind new)) × (next.base ≡ at.base)
  recorded state kept loose at =
      let t = told state at.represents in
      let before = acts_before at.base in
      let entries = told_behind old (told_by request state) in
      let lawful = subst (λ (c : Configuration). AreLawful c (before ++ acts_of (kept ++ loose)) entries) (sym at.config) (subst (λ (acts : List Act). AreLawful state.config acts entries) at.acts t.lawful) in
      let there = joins.added at.base kept loose entries at.keeps (lawful, t.payloads) t.one t.are in (
        there.0,
        there.1,
        there.2,
        (λ each. none_loose lends never_fails at.base there.0 there.1 new.filed.journal.value there.3 (joins.each each)),
        record {
          base = at.base;
          config = at.config ∙ sym t.same;
          represents = t.represents;
          acts = t.acts ∙ ap (λ (acts : List Act). acts ++ acts_of entries) at.acts ∙ append_assoc before (acts_of (kept ++ loose)) (acts_of entries)
              ∙ ap (λ (acts : List Act). before ++ acts) (sym (acts_of-append (kept ++ loose) entries) ∙ ap acts_of (sym (all_added kept loose entries there.0 there.1 there.2)));
          keeps = there.3;
        },
        refl,
      )

  pub made_more : ready.told ≡ ready.next.last → old.filed.has_failed ≡ false → MakesMore request old ready.told new
  made_more number works = record {
    bucket = joins.bucket;
    at = joins.at;
    told = joins.told;
    number = joins.number;
    works = joins.has_failed ∙ works;
    sync = joins.sync;
    before = ap (λ s. s.before) joins.syncs;
    behind = ap (λ s. s.behind) joins.syncs;
    joins = joins.joins;
    step = subst (λ (b : Bucketed). IsStep (bucket_behind old) (calls.Write request) (Revision ready.told) b) (sym behind) (write_steps (bucket_behind old) request ready.told ready.next config accepts number);
    bytes = joins.bytes ∙ ap (λ (w : List ℕ). old.bytes ++ w) (frame ready.told).are;
    recorded = recorded;
  }
