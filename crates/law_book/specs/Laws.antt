-- Law records, and the meaning of a table of them.
use Rattle.std.specs.Prelude.{◌≡◌, ℕ, ◌^◌, ◌<◌, Bool, true, ◌⊎◌, List, All, Any, Contains}
use Rattle.words.specs.declared.literal.Literal.{Literal}
use Rattle.words.specs.declared.literals.Literals.{Literals}
use Rattle.words.specs.Words.{Value, Member, Holds, Within, Common, Body}
use Rattle.theory.specs.Meaning.{Meaning}
use Rattle.law_book.specs.declared.law.Law.{Law}
use Rattle.law_book.specs.declared.law.Kind.{Kind}
use Rattle.law_book.specs.declared.law.Kind.TheVariants.{Static, Dynamic, Executability}

-- the number of a kind
abbrev pub kind_number : Kind → ℕ
kind_number Static = 1
kind_number Dynamic = 2
kind_number Executability = 3

-- the head is true in each state where the body holds
abbrev pub static_law : Literal → Literals → Law
static_law head body = record { kind = Static; action = 0; head = head; body = body }

-- the action makes the head true if the body held before
abbrev pub dynamic_law : ℕ → Literal → Literals → Law
dynamic_law action head body = record { kind = Dynamic; action = action; head = head; body = body }

-- the action may run where the body holds
abbrev pub executability_law : ℕ → Literals → Law
executability_law action body = record { kind = Executability; action = action; head = record { fluent = 0; sign = true }; body = body }

-- the fields that a law's kind does not use: a static law has action 0, an executability law fluent 0 with sign true
pub record Unused (law : Law) : Type 0 where
  pub static_action : law.kind ≡ Static → law.action ≡ 0
  pub executability_fluent : law.kind ≡ Executability → law.head.fluent ≡ 0
  pub executability_sign : law.kind ≡ Executability → law.head.sign ≡ true

-- what a law record keeps in a book of these sizes
pub record Good (fluents actions : ℕ) (law : Law) : Type 0 where
  pub action : law.action < actions
  pub fluent : law.head.fluent < fluents
  pub body : Body fluents law.body
  pub unused : Unused law

-- a word obeys a law: if it is static and its body holds there, its head is true there
abbrev pub Obeys : ℕ → Law → Type 0
Obeys w law = law.kind ≡ Static → Holds law.body w → Value w law.head.fluent law.head.sign

-- an executability law of the action a
pub record Permission (a : ℕ) (law : Law) : Type 0 where
  pub kind : law.kind ≡ Executability
  pub action : law.action ≡ a

-- an executability law of the action a whose body holds in s
pub record Permits (s a : ℕ) (law : Law) : Type 0 where
  pub permission : Permission a law
  pub holds : Holds law.body s

-- a dynamic law of the action a whose body holds in s
pub record TakesEffect (s a : ℕ) (law : Law) : Type 0 where
  pub kind : law.kind ≡ Dynamic
  pub action : law.action ≡ a
  pub holds : Holds law.body s

-- a static law whose body stands in the set of two masks
pub record Fires (set : Literals) (law : Law) : Type 0 where
  pub kind : law.kind ≡ Static
  pub body : Within law.body set

-- the head of the law is the literal of f with the sign v
pub record Head (law : Law) (f : ℕ) (v : Bool) : Type 0 where
  pub fluent : law.head.fluent ≡ f
  pub sign : law.head.sign ≡ v

-- a state is a word below 2 to the power of the count of fluents that obeys every law
pub record IsState (fluents : ℕ) (laws : List Law) (s : ℕ) : Type 0 where
  pub below : s < 2 ^ fluents
  pub obeys : All (Obeys s) laws

-- the action a is silent: no law is an executability law of it
abbrev pub Silent : List Law → ℕ → Type 0
Silent laws a = All (λ law. ¬ Permission a law) laws

-- the action a may run in s: the body of one of its executability laws holds there, or it is silent
abbrev pub MayRun : List Law → ℕ → ℕ → Type 0
MayRun laws s a = Any (Permits s a) laws ⊎ Silent laws a

-- the literal of f with the sign v is a direct effect of a in s: the head of one of its dynamic laws whose bodies hold in s
pub record Effect (laws : List Law) (s a f : ℕ) (v : Bool) : Type 0 where
  pub law : Law
  pub stands : Contains laws law
  pub takes : TakesEffect s a law
  pub head : Head law f v

-- the set P of literals is closed under the static laws: it has the head of each whose body it has
abbrev pub Closed : List Law → (ℕ → Bool → Type 0) → Type 0
Closed laws P =
    (law : Law) → Contains laws law → law.kind ≡ Static → ((g : ℕ) (w : Bool) → Member law.body g w → P g w)
    → P law.head.fluent law.head.sign

-- the least set of literals that contains Base and is closed under the static laws
pub data Least (laws : List Law) (Base : ℕ → Bool → Type 0) : ℕ → Bool → Type 0 where
  base : {f : ℕ} {v : Bool} → Base f v → Least laws Base f v
  follows : {f : ℕ} {v : Bool} (law : Law) → Contains laws law → law.kind ≡ Static
      → ((g : ℕ) (w : Bool) → Member law.body g w → Least laws Base g w) → Head law f v → Least laws Base f v

-- what a step from s to t by a starts from: the direct effects, and the literals common to s and t
abbrev pub Given : ℕ → List Law → ℕ → ℕ → ℕ → ℕ → Bool → Type 0
Given fluents laws s a t f v = Effect laws s a f v ⊎ Common fluents s t f v

-- the literals caused between s and t by a
abbrev pub Caused : ℕ → List Law → ℕ → ℕ → ℕ → ℕ → Bool → Type 0
Caused fluents laws s a t = Least laws (Given fluents laws s a t)

-- each caused literal is a literal of t
abbrev pub NoneContrary : ℕ → List Law → ℕ → ℕ → ℕ → Type 0
NoneContrary fluents laws s a t = (f : ℕ) (v : Bool) → Caused fluents laws s a t f v → (f < fluents) × Value t f v

-- each literal of t is caused
abbrev pub AllCaused : ℕ → List Law → ℕ → ℕ → ℕ → Type 0
AllCaused fluents laws s a t = (f : ℕ) (v : Bool) → f < fluents → Value t f v → Caused fluents laws s a t f v

-- (s, a, t) is a step: s and t are states, a may run in s, and the literals of t are exactly the caused ones
pub record IsStep (fluents actions : ℕ) (laws : List Law) (s a t : ℕ) : Type 0 where
  pub from : IsState fluents laws s
  pub action : a < actions
  pub runs : MayRun laws s a
  pub to : IsState fluents laws t
  pub none_contrary : NoneContrary fluents laws s a t
  pub all_caused : AllCaused fluents laws s a t

-- the meaning of a table of laws
abbrev pub meaning_of : ℕ → ℕ → List Law → Meaning
meaning_of fluents actions laws = record {
  fluents = fluents;
  actions = actions;
  State = IsState fluents laws;
  Step = IsStep fluents actions laws;
}
