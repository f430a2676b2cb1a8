-- The stages of a chain, one after another.
use Rattle.std.proofs.Common.{◌≡◌, ℕ, ◌+◌, ◌*◌, ◌<◌, ◌≤◌, Bool, true, false, cond, List, [], ◌∷◌, ◌++◌, length, get_or, drop, Option, Some, None, eqb, refl, sym, ap, ◌∙◌, subst, arith, length-append, append_assoc, eq-eqb, ne_eqb}
use Rattle.std.specs.Prelude.{◌||◌, count_by, option_and_then}
use Rattle.std.specs.List.{list_all, list_any, last_or}
use Rattle.std.proofs.Math.Bool.{or-false}
use Rattle.std.proofs.Math.Nat.{add-mul, mul-le-mul_right}
use Rattle.std.proofs.lemmas.List.{drop_more, drop_all}
use Rattle.std.proofs.lemmas.List.Folds.{list_any-append}
use Rattle.event_words.specs.declared.access.Access.{Access}
use Rattle.event_words.specs.declared.reply.Reply.{Reply}
use Rattle.event_words.specs.declared.record.LoggedEvent.{LoggedEvent}
use Rattle.event_words.specs.Records.{one_stage, stage_following, through_stages}
use Rattle.event_words.specs.Sections.{submission_events}
use Rattle.shared_log.specs.Callers.{CallerView}
use Rattle.cascade_path.specs.declared.chain.ChainReply.{ChainReply}
use Rattle.cascade_path.specs.declared.chain.ChainReply.TheVariants.{Allowed}
use Rattle.cascade_path.specs.Making.{MakesEvents}
use Rattle.cascade_path.specs.Answers.{event_answer, is_beginning, last_stage, chain_reply, is_allowed, is_denied, is_busy, is_open, is_odd, is_some_of, decides}
use Rattle.cascade_path.specs.Chains.{SendsThrough}
use Rattle.cascade_path.specs.Stages.{PassesStage, allowed_next, waits}
use Rattle.cascade_path.proofs.Making.{makes_none, makes_both, same_number}
use Rattle.cascade_path.proofs.Causes.{IsKind, IsClosedKind, count-append, decides_at, none_waiting, count_waiting, last_behind}

-- ---- the kinds

denied_kind : IsKind is_denied
denied_kind = record { denied = λ s t d. refl; busy = λ s t. refl; still_open = λ s t p. refl; odd = λ s t r. refl }

busy_kind : IsKind is_busy
busy_kind = record { denied = λ s t d. refl; busy = λ s t. refl; still_open = λ s t p. refl; odd = λ s t r. refl }

odd_kind : IsKind is_odd
odd_kind = record { denied = λ s t d. refl; busy = λ s t. refl; still_open = λ s t p. refl; odd = λ s t r. refl }

open_kind : IsKind is_open
open_kind = record { denied = λ s t d. refl; busy = λ s t. refl; still_open = λ s t p. refl; odd = λ s t r. refl }

allowed_kind : IsKind is_allowed
allowed_kind = record { denied = λ s t d. refl; busy = λ s t. refl; still_open = λ s t p. refl; odd = λ s t r. refl }

pub not_allowed : (a : ChainReply) → ((next : ℕ) → a ≡ Allowed next → ⊥) → is_allowed a ≡ false
not_allowed (Allowed next) h = absurd (h next refl)
not_allowed _ h = refl

pub no_next : (a : ChainReply) → ((next : ℕ) → a ≡ Allowed next → ⊥) → allowed_next a ≡ None
no_next (Allowed next) h = absurd (h next refl)
no_next _ h = refl

-- ---- events of a stage after those of the stages before it

-- Some event is of the kind where the last is.
some_of_kind : (kind : ChainReply → Bool) → IsKind kind → IsClosedKind kind → (made earlier : List LoggedEvent) (last : LoggedEvent) (stage : ℕ) (answer : ChainReply)
    → list_any (decides kind) made ≡ false → list_all waits earlier ≡ true → event_answer stage last ≡ Some answer → list_any (decides kind) (made ++ (earlier ++ last ∷ [])) ≡ kind answer
some_of_kind kind k closed made earlier last stage answer none wait decided =
    list_any-append (decides kind) made (earlier ++ last ∷ [])
    ∙ ap (λ (t : Bool). t || list_any (decides kind) (earlier ++ last ∷ [])) none
    ∙ list_any-append (decides kind) earlier (last ∷ [])
    ∙ ap (λ (t : Bool). t || (decides kind last || false)) (none_waiting kind closed earlier wait)
    ∙ or-false (decides kind last) ∙ decides_at kind k stage last answer decided

counted : (made earlier : List LoggedEvent) (last : LoggedEvent) (stage i : ℕ) (answer : ChainReply) → count_by (decides is_allowed) made ≡ i → list_all waits earlier ≡ true → event_answer stage last ≡ Some answer
    → count_by (decides is_allowed) (made ++ (earlier ++ last ∷ [])) ≡ i + cond (is_allowed answer) 1 0
counted made earlier last stage i answer so_far wait decided =
    let one : count_by (decides is_allowed) (last ∷ []) ≡ 0 + cond (is_allowed answer) 1 0 = ap (λ (t : Bool). 0 + cond t 1 0) (decides_at is_allowed allowed_kind stage last answer decided) in
    omega (arith, count-append (decides is_allowed) made (earlier ++ last ∷ []), count-append (decides is_allowed) earlier (last ∷ []), count_waiting is_allowed (λ s p. refl) earlier wait)

is_last : (made earlier : List LoggedEvent) (last : LoggedEvent) → last_or None (made ++ (earlier ++ last ∷ [])) ≡ Some last
is_last made earlier last = ap (last_or None) (sym (append_assoc made earlier (last ∷ []))) ∙ last_behind None (made ++ earlier) last []

begun : (made whole : List LoggedEvent) (i : ℕ) → count_by is_beginning made ≡ i → count_by is_beginning whole ≡ 1 → count_by is_beginning (made ++ whole) ≡ i + 1
begun made whole i a b = count-append is_beginning made whole ∙ (omega arith)

-- the last event decides for all
answered : (made : List LoggedEvent) (last : LoggedEvent) (i : ℕ) (answer : ChainReply) → last_or None made ≡ Some last → count_by is_beginning made ≡ i + 1 → event_answer i last ≡ Some answer → chain_reply made ≡ Some answer
answered made last i answer is count decided =
    let stage : last_stage made ≡ i = omega arith in
    ap (option_and_then (event_answer (last_stage made))) is ∙ ap (λ (s : ℕ). event_answer s last) stage ∙ decided

opened : (made : List LoggedEvent) (last : LoggedEvent) (stage : ℕ) (answer : ChainReply) → last_or None made ≡ Some last → event_answer stage last ≡ Some answer → is_open answer ≡ is_some_of is_open (option_and_then (event_answer 0) (last_or None made))
opened made last stage answer is decided = sym (decides_at is_open open_kind stage last answer decided) ∙ ap (λ (o : Option LoggedEvent). is_some_of is_open (option_and_then (event_answer 0) o)) (sym is)

-- ---- the record

few_more : (i n : ℕ) (made whole : List LoggedEvent) → length made ≤ i * n → length whole ≤ n → length (made ++ whole) ≤ (i + 1) * n
few_more i n made whole a b = omega (arith, length-append made whole, add-mul i 1 n)

next_record : (n tries : ℕ) (a : Access) (stages : List ℕ) (i requester : ℕ) (whole : List LoggedEvent) (next : Option ℕ) (rest : List LoggedEvent) → i < length stages
    → one_stage n tries (get_or stages i 0) (record a { rrid = requester }) (through_stages n tries a (drop (i + 1) stages)) (whole ++ rest) ≡ stage_following (through_stages n tries a (drop (i + 1) stages)) next rest
    → through_stages n tries a (drop i stages) requester (whole ++ rest) ≡ stage_following (through_stages n tries a (drop (i + 1) stages)) next rest
next_record n tries a stages i requester whole next rest h is =
    ap (λ (l : List ℕ). through_stages n tries a l requester (whole ++ rest)) (drop_more stages i 0 h) ∙ is

-- The last event so far allowed, at the stage before this one.
pub record LastAllows (made : List LoggedEvent) (i requester : ℕ) : Type 0 where
  pub last : LoggedEvent
  pub is : last_or None made ≡ Some last
  pub stage : ℕ
  pub before : stage + 1 ≡ i
  pub allows : event_answer stage last ≡ Some (Allowed requester)

-- a stage more fits into the events that are left
pub room_left : (i k n : ℕ) → i < k → i * n + n ≤ k * n
room_left i k n h = let e : (i + 1) * n ≤ k * n = mul-le-mul_right n (omega arith) in omega (arith, add-mul i 1 n)

module _ {M S : Type 0} (after : S → ℕ → ℕ → S) (reply : S → ℕ → ℕ → Reply) where
  -- After i stages, each of which allowed.
  pub record Passing (c : CallerView M S) (stages : List ℕ) (access : Access) (tries i requester : ℕ) (d : CallerView M S) : Type 0 where
    pub made : List LoggedEvent
    pub adds : MakesEvents after reply c made d
    pub few : length made ≤ i * (submission_events access + tries)
    pub so_far : (rest : List LoggedEvent) → through_stages c.number tries access stages access.rrid (made ++ rest) ≡ through_stages c.number tries access (drop i stages) requester rest
    pub beginnings : count_by is_beginning made ≡ i
    pub allowed : count_by (decides is_allowed) made ≡ i
    pub no_denial : list_any (decides is_denied) made ≡ false
    pub no_busy : list_any (decides is_busy) made ≡ false
    pub no_odd : list_any (decides is_odd) made ≡ false
    pub latest : 0 < i → LastAllows made i requester
    pub small : requester ≤ 63

  pub passing_none : (c : CallerView M S) (stages : List ℕ) (access : Access) (tries : ℕ) → access.rrid ≤ 63 → Passing c stages access tries 0 access.rrid c
  passing_none c stages access tries h = record {
    made = [];
    adds = makes_none after reply c;
    few = omega arith;
    so_far = λ rest. refl;
    beginnings = refl;
    allowed = refl;
    no_denial = refl;
    no_busy = refl;
    no_odd = refl;
    latest = λ h. absurd (omega arith);
    small = h;
  }

  -- the stage's record, with the number that the caller had at first
  stage_record : (c d f : CallerView M S) (stage unit : ℕ) (a : Access) (tries : ℕ) (answer : ChainReply) (p : PassesStage after reply d stage unit a tries answer f) → d.number ≡ c.number
      → (go : ℕ → List LoggedEvent → Option (List LoggedEvent)) (rest : List LoggedEvent)
      → one_stage c.number tries unit a go ((p.earlier ++ p.last ∷ []) ++ rest) ≡ stage_following go (allowed_next answer) rest
  stage_record c d f stage unit a tries answer p same go rest =
      subst (λ (n : ℕ). one_stage n tries unit a go ((p.earlier ++ p.last ∷ []) ++ rest) ≡ stage_following go (allowed_next answer) rest) same (p.record_is go rest)

  one_more_record : (c d f : CallerView M S) (stages : List ℕ) (access : Access) (tries i requester : ℕ) (answer : ChainReply) (b : Passing c stages access tries i requester d) → i < length stages
      → (p : PassesStage after reply d i (get_or stages i 0) (record access { rrid = requester }) tries answer f) → (rest : List LoggedEvent)
      → through_stages c.number tries access stages access.rrid ((b.made ++ (p.earlier ++ p.last ∷ [])) ++ rest) ≡ stage_following (through_stages c.number tries access (drop (i + 1) stages)) (allowed_next answer) rest
  one_more_record c d f stages access tries i requester answer b h p rest =
      ap (through_stages c.number tries access stages access.rrid) (append_assoc b.made (p.earlier ++ p.last ∷ []) rest)
      ∙ b.so_far ((p.earlier ++ p.last ∷ []) ++ rest)
      ∙ next_record c.number tries access stages i requester (p.earlier ++ p.last ∷ []) (allowed_next answer) rest h
      (stage_record c d f i (get_or stages i 0) (record access { rrid = requester }) tries answer p (same_number after reply c d b.made b.adds) (through_stages c.number tries access (drop (i + 1) stages)) rest)

  whole_few : (d f : CallerView M S) (stage unit : ℕ) (a : Access) (tries : ℕ) (answer : ChainReply) (p : PassesStage after reply d stage unit a tries answer f) → length (p.earlier ++ p.last ∷ []) ≤ submission_events a + tries
  whole_few d f stage unit a tries answer p = let few = p.few in omega (arith, length-append p.earlier (p.last ∷ []))

  -- one stage more, which allowed
  pub passing_more : (c d f : CallerView M S) (stages : List ℕ) (access : Access) (tries i requester next : ℕ) → Passing c stages access tries i requester d → i < length stages → next ≤ 63
      → PassesStage after reply d i (get_or stages i 0) (record access { rrid = requester }) tries (Allowed next) f → Passing c stages access tries (i + 1) next f
  passing_more c d f stages access tries i requester next b h small p =
      let whole : List LoggedEvent = p.earlier ++ p.last ∷ [] in
      let answer : ChainReply = Allowed next in record {
        made = b.made ++ whole;
        adds = makes_both after reply c d f b.made whole b.adds p.adds;
        few = few_more i (submission_events access + tries) b.made whole b.few (whole_few d f i (get_or stages i 0) (record access { rrid = requester }) tries answer p);
        so_far = one_more_record c d f stages access tries i requester answer b h p;
        beginnings = begun b.made whole i b.beginnings p.beginnings;
        allowed = counted b.made p.earlier p.last i i answer b.allowed p.waiting p.decided;
        no_denial = some_of_kind is_denied denied_kind (λ s q. refl) b.made p.earlier p.last i answer b.no_denial p.waiting p.decided;
        no_busy = some_of_kind is_busy busy_kind (λ s q. refl) b.made p.earlier p.last i answer b.no_busy p.waiting p.decided;
        no_odd = some_of_kind is_odd odd_kind (λ s q. refl) b.made p.earlier p.last i answer b.no_odd p.waiting p.decided;
        latest = λ some. record { last = p.last; is = is_last b.made p.earlier p.last; stage = i; before = refl; allows = p.decided };
        small = small;
      }

  -- a stage that didn't allow
  pub passing_ended : (c d f : CallerView M S) (stages : List ℕ) (access : Access) (tries i requester : ℕ) (answer : ChainReply) → Passing c stages access tries i requester d → i < length stages
      → PassesStage after reply d i (get_or stages i 0) (record access { rrid = requester }) tries answer f → is_allowed answer ≡ false → allowed_next answer ≡ None → SendsThrough after reply c stages access tries answer f
  passing_ended c d f stages access tries i requester answer b h p refused none =
      let whole : List LoggedEvent = p.earlier ++ p.last ∷ [] in
      let n : ℕ = submission_events access + tries in
      let last : last_or None (b.made ++ whole) ≡ Some p.last = is_last b.made p.earlier p.last in
      let most : (i + 1) * n ≤ length stages * n = mul-le-mul_right n (omega arith) in
      let few : length (b.made ++ whole) ≤ (i + 1) * n = few_more i n b.made whole b.few (whole_few d f i (get_or stages i 0) (record access { rrid = requester }) tries answer p) in
      let count : count_by (decides is_allowed) (b.made ++ whole) ≡ i = counted b.made p.earlier p.last i i answer b.allowed p.waiting p.decided ∙ ap (λ (t : Bool). i + cond t 1 0) refused ∙ (omega arith) in record {
        made = b.made ++ whole;
        adds = makes_both after reply c d f b.made whole b.adds p.adds;
        few = omega arith;
        record_is = λ rest. one_more_record c d f stages access tries i requester answer b h p rest ∙ ap (λ (o : Option ℕ). stage_following (through_stages c.number tries access (drop (i + 1) stages)) o rest) none;
        decided = answered (b.made ++ whole) p.last i answer last (begun b.made whole i b.beginnings p.beginnings) p.decided;
        cause = record {
          allowed = refused ∙ sym (ap (λ (k : ℕ). eqb k (length stages)) count ∙ ne_eqb i (length stages) (λ e. omega arith));
          denied = sym (some_of_kind is_denied denied_kind (λ s q. refl) b.made p.earlier p.last i answer b.no_denial p.waiting p.decided);
          busy = sym (some_of_kind is_busy busy_kind (λ s q. refl) b.made p.earlier p.last i answer b.no_busy p.waiting p.decided);
          odd = sym (some_of_kind is_odd odd_kind (λ s q. refl) b.made p.earlier p.last i answer b.no_odd p.waiting p.decided);
          still_open = opened (b.made ++ whole) p.last i answer last p.decided;
        };
      }

  -- all stages allowed
  pub passing_end : (c d : CallerView M S) (stages : List ℕ) (access : Access) (tries i requester : ℕ) → Passing c stages access tries i requester d → length stages ≤ i → i ≤ length stages → 1 ≤ length stages
      → SendsThrough after reply c stages access tries (Allowed requester) d
  passing_end c d stages access tries i requester b low high some =
      let same : i ≡ length stages = omega arith in
      let latest : LastAllows b.made i requester = b.latest (omega arith) in
      let stage : latest.stage + 1 ≡ i = latest.before in record {
        made = b.made;
        adds = b.adds;
        few = subst (λ (k : ℕ). length b.made ≤ k * (submission_events access + tries)) same b.few;
        record_is = λ rest. b.so_far rest ∙ ap (λ (l : List ℕ). through_stages c.number tries access l requester rest) (drop_all i stages low);
        decided = answered b.made latest.last latest.stage (Allowed requester) latest.is (b.beginnings ∙ sym stage) latest.allows;
        cause = record {
          allowed = sym (ap (λ (k : ℕ). eqb k (length stages)) b.allowed ∙ eq-eqb i (length stages) same);
          denied = sym b.no_denial;
          busy = sym b.no_busy;
          odd = sym b.no_odd;
          still_open = opened b.made latest.last latest.stage (Allowed requester) latest.is latest.allows;
        };
      }
