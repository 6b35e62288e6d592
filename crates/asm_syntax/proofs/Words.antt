-- The words of registers, both ways.
use Rattle.std.proofs.Common.{◌≡◌, ℕ, suc, ◌+◌, Bool, true, false, cond, ◌&&◌, ◌||◌, List, [], ◌∷◌, ◌++◌, Some, None, ◌⊎◌, inl, inr, length, take, drop, not, take_at, drop_at, drop-drop, refl, sym, ap, ◌∙◌, subst, arith}
use Rattle.std.specs.Prelude.{nat_eq, Option, option_map, option_and_then, codes}
use Rattle.std.specs.List.{list_any, before_first, after_first, position_or_len}
use Rattle.std.specs.Fmt.{decimal}
use Rattle.std.proofs.lemmas.Bool.{and_parts, or_parts, leb-true, eqb-true}
use Rattle.operation.specs.declared.Action.{Action}
use Rattle.operation.specs.declared.Action.TheVariants.{Un, Uc, On, Oc, An, Ac}
use Rattle.operation.specs.declared.Dest.{Dest}
use Rattle.operation.specs.Ranges.{is_register, is_target}
use Rattle.asm_syntax.specs.Lexemes.{Lexeme, Word}
use Rattle.asm_syntax.specs.Spellings.{general, predicate, target, action_name}
use Rattle.asm_syntax.specs.Operands.{Operand, General, Predicate, Target, Destination, Immediate, Named, is_operand, operand_lexemes}
use Rattle.asm_syntax.specs.Reading.{number_in, register_in, target_in, action_named, is_dot, destination_by, predicate_in, word_operand}
use Rattle.asm_syntax.proofs.Numerals.{written_read, without_dot, read_written}

register_read : (n : ℕ) → is_register n ≡ true → register_in (decimal n) ≡ Some n
register_read n h =
    let few = leb-true n 31 h in
    ap (option_and_then (λ k. cond (is_register k) (Some k) None)) (written_read n few) ∙ ap (λ b. cond b (Some n) None) h

target_read : (n : ℕ) → is_target n ≡ true → target_in (decimal n) ≡ Some n
target_read n h =
    let few = leb-true n 7 h in
    ap (option_and_then (λ k. cond (is_target k) (Some k) None)) (written_read n (omega arith)) ∙ ap (λ b. cond b (Some n) None) h

-- ---- a list up to its first dot

dot_place : (xs ys : List ℕ) → list_any is_dot xs ≡ false → position_or_len is_dot (xs ++ (46 ∷ ys)) ≡ length xs
dot_place [] ys h = refl
dot_place (x ∷ xs) ys h =
    let p = or_parts (is_dot x) (list_any is_dot xs) h in
    let ih = dot_place xs ys p.1 in
    ap (λ b. cond (not b) (1 + position_or_len is_dot (xs ++ (46 ∷ ys))) 0) p.0 ∙ (omega (arith, ih))

before_dot : (xs ys : List ℕ) → list_any is_dot xs ≡ false → before_first is_dot (xs ++ (46 ∷ ys)) ≡ xs
before_dot xs ys h = ap (λ n. take n (xs ++ (46 ∷ ys))) (dot_place xs ys h) ∙ take_at xs (46 ∷ ys) (length xs) refl

after_dot : (xs ys : List ℕ) → list_any is_dot xs ≡ false → after_first is_dot (xs ++ (46 ∷ ys)) ≡ ys
after_dot xs ys h =
    ap (λ n. drop (n + 1) (xs ++ (46 ∷ ys))) (dot_place xs ys h)
    ∙ sym (drop-drop 1 (length xs) (xs ++ (46 ∷ ys)))
    ∙ ap (drop 1) (drop_at xs (46 ∷ ys) (length xs) refl)

any_dot : (xs ys : List ℕ) → list_any is_dot (xs ++ (46 ∷ ys)) ≡ true
any_dot [] ys = refl
any_dot (x ∷ xs) ys = go (is_dot x) (any_dot xs ys)
  where
    go : (b : Bool) → list_any is_dot (xs ++ (46 ∷ ys)) ≡ true → (b || list_any is_dot (xs ++ (46 ∷ ys))) ≡ true
    go true ih = refl
    go false ih = ih

action_read : (a : Action) → action_named (action_name a) ≡ Some a
action_read Un = refl
action_read Uc = refl
action_read On = refl
action_read Oc = refl
action_read An = refl
action_read Ac = refl

-- ---- what is written is read

word_same : (v w : List ℕ) → (let xs : List Lexeme = Word v ∷ [] in xs) ≡ Word w ∷ [] → v ≡ w
word_same v w h = cc

predicate_read : (n : ℕ) → is_register n ≡ true → predicate_in (decimal n) ≡ Some (Predicate n)
predicate_read n h =
    ap (λ b. cond b (destination_by (register_in (before_first is_dot (decimal n))) (action_named (after_first is_dot (decimal n)))) (option_map Predicate (register_in (decimal n))))
    (without_dot n (leb-true n 31 h))
    ∙ ap (option_map Predicate) (register_read n h)

destination_read : (d : Dest) → is_register d.p ≡ true → predicate_in (decimal d.p ++ (46 ∷ action_name d.action)) ≡ Some (Destination d)
destination_read d h =
    let plain = without_dot d.p (leb-true d.p 31 h) in
    let rest = decimal d.p ++ (46 ∷ action_name d.action) in
    ap (λ b. cond b (destination_by (register_in (before_first is_dot rest)) (action_named (after_first is_dot rest))) (option_map Predicate (register_in rest)))
    (any_dot (decimal d.p) (action_name d.action))
    ∙ ap (λ ds. destination_by (register_in ds) (action_named (after_first is_dot rest))) (before_dot (decimal d.p) (action_name d.action) plain)
    ∙ ap (λ o. destination_by o (action_named (after_first is_dot rest))) (register_read d.p h)
    ∙ ap (λ ds. destination_by (Some d.p) (action_named ds)) (after_dot (decimal d.p) (action_name d.action) plain)
    ∙ ap (destination_by (Some d.p)) (action_read d.action)

pub written_word_read : (x : Operand) (w : List ℕ) → is_operand x ≡ true → operand_lexemes x ≡ Word w ∷ [] → word_operand w ≡ Some x
written_word_read (General n) w h e = ap word_operand (sym (word_same (general n) w e)) ∙ ap (option_map General) (register_read n h)
written_word_read (Predicate n) w h e = ap word_operand (sym (word_same (predicate n) w e)) ∙ predicate_read n h
written_word_read (Target n) w h e = ap word_operand (sym (word_same (target n) w e)) ∙ ap (option_map Target) (target_read n h)
written_word_read (Destination d) w h e = ap word_operand (sym (word_same (predicate d.p ++ (codes "." ++ action_name d.action)) w e)) ∙ destination_read d h
written_word_read (Immediate z) w h e = absurd (let k : ⊥ = cc in k)
written_word_read (Named name) w h e = absurd (let k : ⊥ = cc in k)

-- ---- what is read is written so

-- an operand that a word writes
pub record Written (w : List ℕ) (x : Operand) : Type 0 where
  pub same : operand_lexemes x ≡ Word w ∷ []
  pub there : is_operand x ≡ true

some_same : {X : Type 0} (x y : X) → Some x ≡ Some y → x ≡ y
some_same x y h = cc

-- an option of a mapped one
mapped : {X Y : Type 0} (f : X → Y) (o : Option X) (y : Y) → option_map f o ≡ Some y → (x : X) × (o ≡ Some x) × (f x ≡ y)
mapped f None y h = absurd (let k : ⊥ = cc in k)
mapped f (Some x) y h = (x, refl, some_same (f x) y h)

-- a register's number
pub record Numbered (ds : List ℕ) (n : ℕ) (there : Bool) : Type 0 where
  pub written : decimal n ≡ ds
  pub is_there : there ≡ true

kept : (p : ℕ → Bool) (o : Option ℕ) (n : ℕ) → option_and_then (λ k. cond (p k) (Some k) None) o ≡ Some n → (o ≡ Some n) × (p n ≡ true)
kept p None n h = absurd (let k : ⊥ = cc in k)
kept p (Some k) n h = go (p k) refl h
  where
    go : (b : Bool) → p k ≡ b → cond b (Some k) None ≡ Some n → (Some k ≡ Some n) × (p n ≡ true)
    go true e g = (g, ap p (sym (some_same k n g)) ∙ e)
    go false e g = absurd (let c : ⊥ = cc in c)

register_written : (ds : List ℕ) (n : ℕ) → register_in ds ≡ Some n → Numbered ds n (is_register n)
register_written ds n h =
    let k = kept is_register (number_in ds) n h in
    record { written = read_written ds n k.0 (leb-true n 31 k.1); is_there = k.1 }

target_written : (ds : List ℕ) (n : ℕ) → target_in ds ≡ Some n → Numbered ds n (is_target n)
target_written ds n h =
    let k = kept is_target (number_in ds) n h in
    let few = leb-true n 7 k.1 in
    record { written = read_written ds n k.0 (omega arith); is_there = k.1 }

-- ---- actions

two_letters : (a b x y : ℕ) → (nat_eq a x && nat_eq b y) ≡ true → (let xs : List ℕ = x ∷ (y ∷ []) in xs) ≡ a ∷ (b ∷ [])
two_letters a b x y h =
    let p = and_parts (nat_eq a x) (nat_eq b y) h in
    let e = eqb-true a x p.0 in
    let f = eqb-true b y p.1 in
    cc

-- by one test after another
first_or : (b : Bool) (x y : Action) (o : Option Action) → cond b (Some x) o ≡ Some y → ((b ≡ true) × (x ≡ y)) ⊎ (o ≡ Some y)
first_or true x y o h = inl (refl, some_same x y h)
first_or false x y o h = inr h

named : (a b x y : ℕ) (kind action : Action) → action_name kind ≡ x ∷ (y ∷ []) → (nat_eq a x && nat_eq b y) ≡ true → kind ≡ action → action_name action ≡ a ∷ (b ∷ [])
named a b x y kind action e h same = ap action_name (sym same) ∙ e ∙ two_letters a b x y h

action_written : (w : List ℕ) (action : Action) → action_named w ≡ Some action → action_name action ≡ w
action_written [] action h = absurd (let k : ⊥ = cc in k)
action_written (a ∷ []) action h = absurd (let k : ⊥ = cc in k)
action_written (a ∷ (b ∷ (c ∷ w))) action h = absurd (let k : ⊥ = cc in k)
action_written (a ∷ (b ∷ [])) action h =
    elim (first_or (nat_eq a 117 && nat_eq b 110) Un action _ h) [
      | inl p ↦ named a b 117 110 Un action refl p.0 p.1
      | inr h1 ↦ elim (first_or (nat_eq a 117 && nat_eq b 99) Uc action _ h1) [
        | inl p ↦ named a b 117 99 Uc action refl p.0 p.1
        | inr h2 ↦ elim (first_or (nat_eq a 111 && nat_eq b 110) On action _ h2) [
          | inl p ↦ named a b 111 110 On action refl p.0 p.1
          | inr h3 ↦ elim (first_or (nat_eq a 111 && nat_eq b 99) Oc action _ h3) [
            | inl p ↦ named a b 111 99 Oc action refl p.0 p.1
            | inr h4 ↦ elim (first_or (nat_eq a 97 && nat_eq b 110) An action _ h4) [
              | inl p ↦ named a b 97 110 An action refl p.0 p.1
              | inr h5 ↦ elim (first_or (nat_eq a 97 && nat_eq b 99) Ac action None h5) [
                | inl p ↦ named a b 97 99 Ac action refl p.0 p.1
                | inr h6 ↦ absurd (let k : ⊥ = cc in k)
              ]
            ]
          ]
        ]
      ]
    ]

-- ---- destinations

-- a list with a dot is what stands before the first, the dot, and what stands behind it
around_dot : (xs : List ℕ) → list_any is_dot xs ≡ true → before_first is_dot xs ++ (46 ∷ after_first is_dot xs) ≡ xs
around_dot [] h = absurd (let k : ⊥ = cc in k)
around_dot (x ∷ xs) h = go (is_dot x) refl h (around_dot xs)
  where
    n : ℕ
    n = position_or_len is_dot xs

    more : 1 + n ≡ suc n
    more = omega arith

    beyond : 1 + n + 1 ≡ suc (n + 1)
    beyond = omega arith

    go : (b : Bool) → is_dot x ≡ b → (b || list_any is_dot xs) ≡ true → (list_any is_dot xs ≡ true → before_first is_dot xs ++ (46 ∷ after_first is_dot xs) ≡ xs) →
        take (cond (not b) (1 + n) 0) (x ∷ xs) ++ (46 ∷ drop (cond (not b) (1 + n) 0 + 1) (x ∷ xs)) ≡ x ∷ xs
    go true e g ih = let same : x ≡ 46 = eqb-true x 46 e in ap (λ k. k ∷ xs) (sym same)
    go false e g ih =
        ap (λ k. take k (x ∷ xs) ++ (46 ∷ drop (1 + n + 1) (x ∷ xs))) more
        ∙ ap (λ k. (x ∷ take n xs) ++ (46 ∷ drop k (x ∷ xs))) beyond
        ∙ ap (λ ys. x ∷ ys) (ih g)

destination_parts : (p : Option ℕ) (a : Option Action) (x : Operand) → destination_by p a ≡ Some x → (n : ℕ) × (action : Action) × (p ≡ Some n) × (a ≡ Some action) × (Destination (record { p = n; action = action }) ≡ x)
destination_parts None a x h = absurd (let k : ⊥ = cc in k)
destination_parts (Some n) None x h = absurd (let k : ⊥ = cc in k)
destination_parts (Some n) (Some action) x h = (n, action, refl, refl, some_same (Destination (record { p = n; action = action })) x h)

destination_written : (rest : List ℕ) (x : Operand) → list_any is_dot rest ≡ true →
    destination_by (register_in (before_first is_dot rest)) (action_named (after_first is_dot rest)) ≡ Some x → Written (112 ∷ rest) x
destination_written rest x dotted h =
    let q = destination_parts (register_in (before_first is_dot rest)) (action_named (after_first is_dot rest)) x h in
    let r = register_written (before_first is_dot rest) q.0 q.2 in
    let a = action_written (after_first is_dot rest) q.1 q.3 in
    let w : decimal q.0 ++ (46 ∷ action_name q.1) ≡ rest =
    ap (λ ds. ds ++ (46 ∷ action_name q.1)) r.written ∙ ap (λ ds. before_first is_dot rest ++ (46 ∷ ds)) a ∙ around_dot rest dotted in
    subst (Written (112 ∷ rest)) q.4 (record { same = ap (λ ds. Word (112 ∷ ds) ∷ []) w; there = r.is_there })

mapped_register : (letter : ℕ) (rest : List ℕ) (make : ℕ → Operand) (x : Operand) → ((n : ℕ) → operand_lexemes (make n) ≡ Word (letter ∷ decimal n) ∷ []) → ((n : ℕ) → is_operand (make n) ≡ is_register n) →
    option_map make (register_in rest) ≡ Some x → Written (letter ∷ rest) x
mapped_register letter rest make x spelled there h =
    let m = mapped make (register_in rest) x h in
    let r = register_written rest m.0 m.1 in
    subst (Written (letter ∷ rest)) m.2 (record { same = spelled m.0 ∙ ap (λ ds. Word (letter ∷ ds) ∷ []) r.written; there = there m.0 ∙ r.is_there })

target_operand : (rest : List ℕ) (x : Operand) → option_map Target (target_in rest) ≡ Some x → Written (98 ∷ rest) x
target_operand rest x h =
    let m = mapped Target (target_in rest) x h in
    let r = target_written rest m.0 m.1 in
    subst (Written (98 ∷ rest)) m.2 (record { same = ap (λ ds. Word (98 ∷ ds) ∷ []) r.written; there = r.is_there })

predicate_written : (rest : List ℕ) (x : Operand) → predicate_in rest ≡ Some x → Written (112 ∷ rest) x
predicate_written rest x h = go (list_any is_dot rest) refl h
  where
    go : (b : Bool) → list_any is_dot rest ≡ b →
        cond b (destination_by (register_in (before_first is_dot rest)) (action_named (after_first is_dot rest))) (option_map Predicate (register_in rest)) ≡ Some x → Written (112 ∷ rest) x
    go true e g = destination_written rest x e g
    go false e g = mapped_register 112 rest Predicate x (λ n. refl) (λ n. refl) g

-- by one test after another
cased : (b : Bool) (x : Operand) (o p : Option Operand) → cond b o p ≡ Some x → ((b ≡ true) × (o ≡ Some x)) ⊎ ((b ≡ false) × (p ≡ Some x))
cased true x o p h = inl (refl, h)
cased false x o p h = inr (refl, h)

pub read_word_written : (w : List ℕ) (x : Operand) → word_operand w ≡ Some x → Written w x
read_word_written [] x h = absurd (let k : ⊥ = cc in k)
read_word_written (letter ∷ rest) x h =
    elim (cased (nat_eq letter 114) x (option_map General (register_in rest)) _ h) [
      | inl p ↦ subst (λ l. Written (l ∷ rest) x) (sym (eqb-true letter 114 p.0)) (mapped_register 114 rest General x (λ n. refl) (λ n. refl) p.1)
      | inr p ↦ elim (cased (nat_eq letter 112) x (predicate_in rest) _ p.1) [
        | inl q ↦ subst (λ l. Written (l ∷ rest) x) (sym (eqb-true letter 112 q.0)) (predicate_written rest x q.1)
        | inr q ↦ elim (cased (nat_eq letter 98) x (option_map Target (target_in rest)) None q.1) [
          | inl r ↦ subst (λ l. Written (l ∷ rest) x) (sym (eqb-true letter 98 r.0)) (target_operand rest x r.1)
          | inr r ↦ absurd (let k : ⊥ = cc (r.1) in k)
        ]
      ]
    ]
