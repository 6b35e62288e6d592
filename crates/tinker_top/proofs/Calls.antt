-- How the calls of a host add up.
use Rattle.std.proofs.Common.{ℕ, ◌+◌, ◌≤◌, ◌≡◌, List, [], ◌∷◌, ◌++◌, length, take, zero, suc, Option, Some, None, refl, sym, ◌∙◌, ap, append_assoc, arith}
use Rattle.std.proofs.Math.Seq.{take-append-add, take-length}
use Rattle.std.proofs.lemmas.Grind.{common_steps}
use Rattle.tnk_base.specs.declared.host.Asked.{Asked}
use Rattle.tnk_base.specs.Host.{grown}
use Rattle.tinker_top.specs.Outcome.{Outcome, after}
use Rattle.tinker_top.specs.Top.{asked_too}

pub grown-all : (bytes : List ℕ) (out : Option (List ℕ)) → grown bytes out ≡ grown (take (length bytes) bytes) out
grown-all bytes out = rw (take-length bytes) refl

pub grown-none : (out : Option (List ℕ)) → out ≡ grown [] out
grown-none None = refl
grown-none (Some o) = grind (arith, common_steps)

pub asked_too-none : (told : Option (List Asked)) → told ≡ asked_too [] told
asked_too-none None = refl
asked_too-none (Some o) = grind (arith, common_steps)

pub asked_too-append : (xs ys : List Asked) (told : Option (List Asked)) → asked_too ys (asked_too xs told) ≡ asked_too (xs ++ ys) told
asked_too-append xs ys None = refl
asked_too-append xs ys (Some o) = ap Some (append_assoc o xs ys)

-- calls after calls
pub after-after : (xs ys : List Asked) (o : Outcome) → after xs (after ys o) ≡ after (xs ++ ys) o
after-after xs ys o =
    ap (λ (steps : List Asked). record { steps = steps; kept = o.kept; status = o.status; text = o.text }) (sym (append_assoc xs ys o.steps))

-- a first part of some calls is a first part of more, and no longer than they are
pub first_of_more : (n : ℕ) (xs ys : List Asked) → (m : ℕ) × ((m ≤ length xs) × (take m (xs ++ ys) ≡ take n xs))
first_of_more zero xs ys = (0, (omega arith, refl))
first_of_more (suc n) [] ys = (0, (omega arith, refl))
first_of_more (suc n) (x ∷ xs) ys =
    let r = first_of_more n xs ys in
    (suc r.0, (let h = r.1.0 in omega arith, ap (λ zs. x ∷ zs) r.1.1))

-- some calls were made, and then a first part of others
pub first_behind : (n : ℕ) (xs ys : List Asked) (old mid new : Option (List Asked)) → mid ≡ asked_too xs old → new ≡ asked_too (take n ys) mid →
    new ≡ asked_too (take (length xs + n) (xs ++ ys)) old
first_behind n xs ys old mid new h k =
    k ∙ (ap (λ m. asked_too (take n ys) m) h ∙ (asked_too-append xs (take n ys) old
    ∙ ap (λ calls. asked_too calls old) (sym (take-append-add xs ys n))))
