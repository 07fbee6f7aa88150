-- A published history goes on act by act.
use Rattle.std.proofs.Common.{◌≡◌, ◌⊎◌, ⊎_elim, inl, inr, List, [], ◌∷◌, ◌++◌, refl, sym, subst, append-nil}
use Rattle.kv_model.specs.Acceptance.{IsLawful}
use Rattle.kv_model.specs.Acts.{Act, IsPrefix}
use Rattle.kv_model.specs.Configuration.{Configuration}
use Rattle.kv_publish.specs.Openings.{Opening}
use Rattle.kv_publish.proofs.Prefixes.{prefix_length, prefix_trans, prefix_whole}
use Rattle.kv_store.specs.Standing.{StandsFor}
use Rattle.kv_store.specs.Stored.{Stored}
use Rattle.kv_bucket.specs.Histories.{IsPublishedHistory}

-- a beginning of a list with one more is a beginning of the list, or all of it with that one
one_more : {A : Type 0} (xs ys : List A) (y : A) → IsPrefix xs (ys ++ y ∷ []) → IsPrefix xs ys ⊎ (xs ≡ ys ++ y ∷ [])
one_more [] ys y p = inl (ys, refl)
one_more (x ∷ []) [] y p = inr (cc (p.1))
one_more (x ∷ z ∷ xs) [] y p = absurd (cc (p.1))
one_more (x ∷ xs) (z ∷ ys) y p =
    let head : x ≡ z = cc (p.1) in
    ⊎_elim (λ (q : IsPrefix xs ys). inl (q.0, cc (head, q.1))) (λ (e : xs ≡ ys ++ y ∷ []). inr (cc (head, e)))
    (one_more xs ys y (p.0, cc (p.1)))

pub lawful_under : (config : Configuration) (acts : List Act) (version : Stored) → version.config ≡ config → StandsFor acts version → IsLawful config acts
lawful_under config acts version same stands = subst (λ (c : Configuration). IsLawful c acts) same stands.lawful

-- with the acts that the bucket was opened with it has the version of these
pub begins : (opening : Opening) (version : Stored) → version.config ≡ opening.config → StandsFor opening.book.began version → IsPublishedHistory opening opening.book.began
begins opening version same stands =
    let began = opening.book.began in
    record {
      lawful = lawful_under opening.config began version same stands;
      begins = ([], append-nil began);
      versions = λ beginning from p.
          let is : beginning ≡ began = prefix_whole beginning began p (prefix_length began beginning from) in
          (version, (same, subst (λ (acts : List Act). StandsFor acts version) (sym is) stands));
    }

-- one act more needs one version more
pub goes_on_by : (opening : Opening) (acts : List Act) (act : Act) (version : Stored) → IsPublishedHistory opening acts → version.config ≡ opening.config → StandsFor (acts ++ act ∷ []) version → IsPublishedHistory opening (acts ++ act ∷ [])
goes_on_by opening acts act version before same stands = record {
  lawful = lawful_under opening.config (acts ++ act ∷ []) version same stands;
  begins = prefix_trans opening.book.began acts (acts ++ act ∷ []) before.begins (act ∷ [], refl);
  versions = λ beginning from p. ⊎_elim
      (λ (q : IsPrefix beginning acts). before.versions beginning from q)
      (λ (e : beginning ≡ acts ++ act ∷ []). (version, (same, subst (λ (l : List Act). StandsFor l version) (sym e) stands)))
      (one_more beginning acts act p);
}
