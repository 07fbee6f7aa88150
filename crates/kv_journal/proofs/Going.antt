-- Entries that are done again, one after the other.
use Rattle.std.proofs.Common.{◌≡◌, ℕ, ◌+◌, List, [], ◌∷◌, ◌++◌, length, refl, sym, ap, ◌∙◌, subst, append_assoc, append-nil}
use Rattle.std.proofs.lemmas.List.{map-append}
use Rattle.kv_frames.specs.Frames.{frame, frames, offset_after, IsPayload, ArePayloads, BeginsWhole, Splits}
use Rattle.kv_frames.proofs.Reading.{ArePayloads-push, behind, one_more, offset_after-append}
use Rattle.kv_frames.proofs.Tails.{written}
use Rattle.kv_model.specs.Acts.{Act}
use Rattle.kv_model.specs.Configuration.{Configuration}
use Rattle.kv_store.specs.Standing.{StandsFor}
use Rattle.kv_store.specs.Stored.{Stored}
use Rattle.kv_journal.specs.Entries.{Entry, payload_of, payloads_of, acts_in, acts_of, IsLawfulEntry, AreLawful}
use Rattle.kv_journal.specs.Replays.{Extends, StopsAt}
use Rattle.kv_journal.specs.inside.Redoes.{RedoesEntry}

pub acts_of-append : (xs ys : List Entry) → acts_of (xs ++ ys) ≡ acts_of xs ++ acts_of ys
acts_of-append [] ys = refl
acts_of-append (x ∷ xs) ys =
    ap (λ (more : List Act). acts_in x.content ++ more) (acts_of-append xs ys) ∙ sym (append_assoc (acts_in x.content) (acts_of xs) (acts_of ys))

pub acts_of-push : (xs : List Entry) (x : Entry) → acts_of (xs ++ x ∷ []) ≡ acts_of xs ++ acts_in x.content
acts_of-push xs x = acts_of-append xs (x ∷ []) ∙ ap (λ (more : List Act). acts_of xs ++ more) (append-nil (acts_in x.content))

-- the entries are read and done again up to this offset, and no others that could be added have these payloads
pub record IsReplayed (first : Stored) (seed at : ℕ) (bytes : List ℕ) (entries : List Entry) (offset : ℕ) (rest : List ℕ) (version : Stored) : Type 0 where
  pub whole : bytes ≡ frames seed at (payloads_of entries) ++ rest
  pub each : ArePayloads (payloads_of entries)
  pub here : offset ≡ offset_after at (payloads_of entries)
  pub extends : Extends first (acts_of entries) version
  pub lawful : (before : List Act) → StandsFor before first → AreLawful first.config before entries
  pub only : (before : List Act) (others : List Entry) → StandsFor before first → AreLawful first.config before others → payloads_of others ≡ payloads_of entries → others ≡ entries

no_payloads : (xs : List Entry) → payloads_of xs ≡ [] → xs ≡ []
no_payloads [] e = refl
no_payloads (x ∷ xs) e = absurd cc

pub begun : (first : Stored) (seed at : ℕ) (bytes : List ℕ) → IsReplayed first seed at bytes [] at bytes first
begun first seed at bytes = record {
  whole = refl;
  each = tt;
  here = refl;
  extends = record { config = refl; on = λ before stands. subst (λ (xs : List Act). StandsFor xs first) (sym (append-nil before)) stands };
  lawful = λ before stands. tt;
  only = λ before others stands lawful e. no_payloads others e;
}

-- a list of entries whose payloads go on so
pub record Parts (xs : List Entry) (rs : List (List ℕ)) (p : List ℕ) (ms : List (List ℕ)) (ys : List Entry) (a : Entry) (zs : List Entry) : Type 0 where
  pub whole : xs ≡ ys ++ a ∷ zs
  pub before : payloads_of ys ≡ rs
  pub this : payload_of a ≡ p
  pub behind : payloads_of zs ≡ ms

pub parted : (xs : List Entry) (rs : List (List ℕ)) (p : List ℕ) (ms : List (List ℕ)) → payloads_of xs ≡ rs ++ p ∷ ms → (ys : List Entry) × (a : Entry) × (zs : List Entry) × Parts xs rs p ms ys a zs
parted [] [] p ms e = absurd cc
parted [] (r ∷ rs) p ms e = absurd cc
parted (x ∷ xs) [] p ms e = ([], x, xs, record { whole = refl; before = refl; this = cc; behind = cc })
parted (x ∷ xs) (r ∷ rs) p ms e =
    let t = parted xs rs p ms cc in
    let head : payload_of x ≡ r = cc in
    let w = t.3.whole in
    let b = t.3.before in
    (x ∷ t.0, t.1, t.2, record { whole = cc; before = cc; this = t.3.this; behind = t.3.behind })

-- of lawful entries the first are lawful, and the next can be added behind them
pub lawful_parts : (config : Configuration) (before : List Act) (ys : List Entry) (a : Entry) (zs : List Entry) → AreLawful config before (ys ++ a ∷ zs) → AreLawful config before ys × IsLawfulEntry config (before ++ acts_of ys) a
lawful_parts config before [] a zs h = (tt, subst (λ (xs : List Act). IsLawfulEntry config xs a) (sym (append-nil before)) h.0)
lawful_parts config before (y ∷ ys) a zs h =
    let more = lawful_parts config (before ++ acts_in y.content) ys a zs h.1 in
    ((h.0, more.0), subst (λ (xs : List Act). IsLawfulEntry config xs a) (append_assoc before (acts_in y.content) (acts_of ys)) more.1)

-- and one more that can be added behind lawful ones
pub lawful_push : (config : Configuration) (before : List Act) (ys : List Entry) (a : Entry) → AreLawful config before ys → IsLawfulEntry config (before ++ acts_of ys) a → AreLawful config before (ys ++ a ∷ [])
lawful_push config before [] a each one = (subst (λ (xs : List Act). IsLawfulEntry config xs a) (append-nil before) one, tt)
lawful_push config before (y ∷ ys) a each one =
    (each.0, lawful_push config (before ++ acts_in y.content) ys a each.1 (subst (λ (xs : List Act). IsLawfulEntry config xs a) (sym (append_assoc before (acts_in y.content) (acts_of ys))) one))

pub goes_on : (first : Stored) (seed at : ℕ) (bytes : List ℕ) (entries : List Entry) (offset : ℕ) (rest : List ℕ) (version : Stored) (p after : List ℕ) (entry : Entry) (new : Stored)
    → IsReplayed first seed at bytes entries offset rest version → IsPayload p → rest ≡ frame seed offset p ++ after → RedoesEntry p entry version new → new.config ≡ version.config
    → IsReplayed first seed at bytes (entries ++ entry ∷ []) (offset + (8 + length p)) after new
goes_on first seed at bytes entries offset rest version p after entry new r is found redoes kept =
    let same : payloads_of (entries ++ entry ∷ []) ≡ payloads_of entries ++ p ∷ [] = map-append payload_of entries (entry ∷ []) ∙ ap (λ (z : List ℕ). payloads_of entries ++ z ∷ []) redoes.has in
    record {
      whole = subst (λ (ps : List (List ℕ)). bytes ≡ frames seed at ps ++ after) (sym same) (one_more seed at offset bytes rest (payloads_of entries) p after r.whole r.here found);
      each = subst ArePayloads (sym same) (ArePayloads-push (payloads_of entries) p r.each is);
      here = subst (λ (ps : List (List ℕ)). offset + (8 + length p) ≡ offset_after at ps) (sym same)
          (ap (λ (n : ℕ). n + (8 + length p)) r.here ∙ sym (offset_after-append at (payloads_of entries) (p ∷ [])));
      extends = record {
        config = kept ∙ r.extends.config;
        on = λ before stands. subst (λ (xs : List Act). StandsFor xs new)
            (append_assoc before (acts_of entries) (acts_in entry.content) ∙ ap (λ (xs : List Act). before ++ xs) (sym (acts_of-push entries entry)))
            (redoes.on (before ++ acts_of entries) (r.extends.on before stands));
      };
      lawful = λ before stands. lawful_push first.config before entries entry (r.lawful before stands)
          (subst (λ (config : Configuration). IsLawfulEntry config (before ++ acts_of entries) entry) r.extends.config (redoes.lawful (before ++ acts_of entries) (r.extends.on before stands)));
      only = λ before others stands lawful e. only_these before others stands lawful (e ∙ same);
    }
  where
    only_these : (before : List Act) (others : List Entry) → StandsFor before first → AreLawful first.config before others → payloads_of others ≡ payloads_of entries ++ p ∷ [] → others ≡ entries ++ entry ∷ []
    only_these before others stands lawful e =
        let t = parted others (payloads_of entries) p [] e in
        let ys = t.0 in
        let parts = t.3 in
        let law = lawful_parts first.config before ys t.1 t.2 (subst (AreLawful first.config before) parts.whole lawful) in
        let front : ys ≡ entries = r.only before ys stands law.0 parts.before in
        let accepted : IsLawfulEntry first.config (before ++ acts_of entries) t.1 = subst (λ (xs : List Entry). IsLawfulEntry first.config (before ++ acts_of xs) t.1) front law.1 in
        let here : IsLawfulEntry version.config (before ++ acts_of entries) t.1 = subst (λ (config : Configuration). IsLawfulEntry config (before ++ acts_of entries) t.1) (sym r.extends.config) accepted in
        let last : t.1 ≡ entry = redoes.only (before ++ acts_of entries) (r.extends.on before stands) t.1 parts.this here in
        let none : t.2 ≡ [] = no_payloads t.2 parts.behind in
        let w = parts.whole in
        cc

-- where the next entry can't be done again, no entries that could be added have these payloads
pub is_damaged : (first : Stored) (seed at : ℕ) (bytes : List ℕ) (entries : List Entry) (offset : ℕ) (rest : List ℕ) (version : Stored) (p after : List ℕ)
    → IsReplayed first seed at bytes entries offset rest version → IsPayload p → rest ≡ frame seed offset p ++ after
    → ((so_far : List Act) → StandsFor so_far version → (entry : Entry) → payload_of entry ≡ p → IsLawfulEntry version.config so_far entry → ⊥)
    → (before : List Act) (others : List Entry) (left : List ℕ) → StandsFor before first → AreLawful first.config before others → Splits seed at bytes (payloads_of others) left → ⊥
is_damaged first seed at bytes entries offset rest version p after r is found none before others left stands lawful splits =
    let read = subst (λ (w : List ℕ). Splits seed at w (payloads_of others) left) r.whole splits in
    let more = written seed at (payloads_of entries) (payloads_of others) rest left r.each read in
    ends more.0 more.1 more.2
  where
    ends : (more : List (List ℕ)) → payloads_of others ≡ payloads_of entries ++ more → Splits seed (offset_after at (payloads_of entries)) rest more left → ⊥
    ends [] same split =
        let here : BeginsWhole seed offset left = (p, after, is, sym split.whole ∙ found) in
        split.ended (subst (λ (n : ℕ). BeginsWhole seed n left) r.here here)
    ends (m ∷ ms) same split =
        let there = subst (λ (n : ℕ). rest ≡ frames seed n (m ∷ ms) ++ left) (sym r.here) split.whole in
        let b = behind seed offset p m after left ms is split.each.0 (sym found ∙ there) in
        let t = parted others (payloads_of entries) m ms same in
        let ys = t.0 in
        let parts = t.3 in
        let law = lawful_parts first.config before ys t.1 t.2 (subst (AreLawful first.config before) parts.whole lawful) in
        let front : ys ≡ entries = r.only before ys stands law.0 parts.before in
        let accepted : IsLawfulEntry first.config (before ++ acts_of entries) t.1 = subst (λ (xs : List Entry). IsLawfulEntry first.config (before ++ acts_of xs) t.1) front law.1 in
        let here : IsLawfulEntry version.config (before ++ acts_of entries) t.1 = subst (λ (config : Configuration). IsLawfulEntry config (before ++ acts_of entries) t.1) (sym r.extends.config) accepted in
        none (before ++ acts_of entries) (r.extends.on before stands) t.1 (parts.this ∙ sym b.0) here

-- an offset where reading stops
pub stops : (first : Stored) (seed at : ℕ) (bytes : List ℕ) (entries : List Entry) (offset : ℕ) (rest : List ℕ) (version : Stored) (p after : List ℕ)
    → IsReplayed first seed at bytes entries offset rest version → IsPayload p → rest ≡ frame seed offset p ++ after → StopsAt seed at bytes offset
stops first seed at bytes entries offset rest version p after r is found = record {
  entries = entries;
  rest = rest;
  before = r.whole;
  here = r.here;
  begins = (p, after, is, found);
}
