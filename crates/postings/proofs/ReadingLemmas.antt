-- What was read so far, and how far the bytes behind it go on.
--
-- What was read is told by what may follow: whatever goes on from here is a word with it, and no
-- other word begins so.
use Rattle.std.proofs.Common.{◌≡◌, ℕ, zero, suc, ◌+◌, ◌-◌, ◌<◌, ◌≤◌, ◌^◌, List, [], ◌∷◌, ◌++◌}
use Rattle.std.proofs.Common.{length, take, drop, refl, sym, ap, ap₂, ◌∙◌, subst, arith}
use Rattle.std.proofs.Common.{append_assoc, append-nil}
use Rattle.std.proofs.lemmas.List.{length-append, length-take-le, take-append-drop, take_all}
use Rattle.std.proofs.lemmas.Grind.{common_steps}
use Rattle.index_definitions.specs.PostingLists.{DocumentPositions, PostingList, RisesAbove}
use Rattle.index_definitions.specs.PostingLists.{ArePositions}
use Rattle.postings.specs.Spelling.{SpellsNumber, SpellsNext, SpellsPositions, SpellsDocument}
use Rattle.postings.specs.Spelling.{SpellsDocuments, Spells, Begins, AreBadAt}
use Rattle.postings.specs.Stuck.{IsNumberUpTo, ArePositionBytes, IsDocumentAbove, AreStuck}
use Rattle.postings.proofs.SpellingLemmas.{number-some, number-not_closed, number-front}
use Rattle.postings.proofs.SpellingLemmas.{regrouped, document-front, document-not_empty}
use Rattle.postings.proofs.StuckLemmas.{take-suc}

take_behind : (front rest : List ℕ) (k : ℕ)
    → take (length front + k) (front ++ rest) ≡ front ++ take k rest
take_behind [] rest k =
    let none : length {A = ℕ} [] + k ≡ k = omega arith in ap (λ n. take n rest) none
take_behind (b ∷ front) rest k =
    let next : length (b ∷ front) + k ≡ suc (length front + k) = omega arith in
    ap (λ n. take n (b ∷ (front ++ rest))) next
    ∙ ap (λ es. b ∷ es) (take_behind front rest k)

-- one byte more behind a front
take_behind-more : (front rest more : List ℕ) (k : ℕ)
    → take (length front + k + 1) (front ++ rest) ++ more ≡ front ++ (take (k + 1) rest ++ more)
take_behind-more front rest more k =
    let next : length front + k + 1 ≡ length front + (k + 1) = omega arith in
    ap (λ n. take n (front ++ rest) ++ more) next
    ∙ ap (λ es. es ++ more) (take_behind front rest (k + 1))
    ∙ append_assoc front (take (k + 1) rest) more

-- bytes whose front begins with 00 begin with 00
first_is : (bytes : List ℕ) (k : ℕ) (more rest : List ℕ) → k < length bytes
    → take (k + 1) bytes ++ more ≡ 0 ∷ rest → (others : List ℕ) × (bytes ≡ 0 ∷ others)
first_is [] k more rest inside same = absurd (omega (arith, inside))
first_is (b ∷ bs) k more rest inside same =
    let parts : b ∷ (take k bs ++ more) ≡ 0 ∷ rest =
    sym (ap (λ es. es ++ more) (take-suc k b bs)) ∙ same in
    let head : b ≡ 0 = cc parts in
    (bs, ap (λ d. d ∷ bs) head)

-- ---- the positions of a document

-- some were read, the last of which is `last`, or none and it is 0
pub record HaveRead (front done : List ℕ) (last : ℕ) : Type 0 where
  pub some : 0 < length front → 0 < length done
  pub back : (tail ns : List ℕ) → SpellsPositions last tail ns
      → SpellsPositions 0 (front ++ tail) (done ++ ns)
  pub forth : (tail first rest ms : List ℕ) → front ++ tail ≡ first ++ rest
      → SpellsPositions 0 first ms
      → (others : List ℕ) × (ns : List ℕ) × (tail ≡ others ++ rest) × (ms ≡ done ++ ns)
      × SpellsPositions last others ns

pub HaveRead-none : HaveRead [] [] 0
HaveRead-none = record {
  some = λ some. absurd (omega (arith, some));
  back = λ tail ns spells. spells;
  forth = λ tail first rest ms same spells. (first, ms, same, refl, spells);
}

-- a number that is left as the difference from the one before
pub difference : (last gap n : ℕ) → n ≡ last + gap → n - last ≡ gap
difference last gap n is = omega (arith, is)

pub HaveRead-more : (front done : List ℕ) (last : ℕ) (number : List ℕ) (gap n : ℕ)
    → HaveRead front done last → SpellsNumber number gap → 0 < gap → n ≡ last + gap → n < 2 ^ 32
    → HaveRead (front ++ number) (done ++ n ∷ []) n
HaveRead-more front done last number gap n read spelt some is small = record {
  some = λ _. rw (length-append done (n ∷ [])) (omega arith);
  back = λ tail ns spells.
      let next : SpellsNext last number n = (
        omega (arith, is, some),
        small,
        subst (SpellsNumber number) (sym (difference last gap n is)) spelt,
      ) in
      subst (λ es. SpellsPositions 0 es ((done ++ n ∷ []) ++ ns))
      (sym (append_assoc front number tail))
      (subst (SpellsPositions 0 (front ++ (number ++ tail))) (sym (append_assoc done (n ∷ []) ns))
      (read.back (number ++ tail) (n ∷ ns) (number, tail, refl, next, spells)));
  forth = λ tail first rest ms same spells.
      let found = read.forth (number ++ tail) first rest ms
      (sym (append_assoc front number tail) ∙ same) spells in
      behind tail rest ms found.0 found.1 found.2 found.3 found.4;
}
  where
    behind : (tail rest ms others ns : List ℕ) → number ++ tail ≡ others ++ rest → ms ≡ done ++ ns
        → SpellsPositions last others ns
        → (left : List ℕ) × (later : List ℕ) × (tail ≡ left ++ rest)
        × (ms ≡ (done ++ n ∷ []) ++ later) × SpellsPositions n left later
    behind tail rest ms others [] same all spells =
        absurd (number-not_closed number tail rest gap spelt
        (same ∙ ap (λ es. es ++ rest) spells))
    behind tail rest ms others (m ∷ ns) same all spells =
        let parts = number-front number spells.0 tail (spells.1 ++ rest) gap (m - last) spelt
        spells.3.2
        (same ∙ ap (λ es. es ++ rest) spells.2 ∙ append_assoc spells.0 spells.1 rest) in
        let m_is : m ≡ n = omega (arith, is, parts.1, spells.3.0) in (
          spells.1,
          ns,
          parts.2,
          all ∙ ap (λ k. done ++ k ∷ ns) m_is ∙ sym (append_assoc done (n ∷ []) ns),
          subst (λ k. SpellsPositions k spells.1 ns) m_is spells.4,
        )

-- where the document ends
pub HaveRead-closed : (front done : List ℕ) (last : ℕ) → HaveRead front done last
    → SpellsPositions 0 (front ++ 0 ∷ []) done
HaveRead-closed front done last read =
    subst (SpellsPositions 0 (front ++ 0 ∷ [])) (append-nil done) (read.back (0 ∷ []) [] refl)

-- positions that are spelt rise
rises : (before : ℕ) (bytes ns : List ℕ) → SpellsPositions before bytes ns → RisesAbove before ns
rises before bytes [] spells = tt
rises before bytes (n ∷ ns) spells = (spells.3.0, rises n spells.1 ns spells.4)

pub ArePositions-spelt : (bytes ns : List ℕ) → SpellsPositions 0 bytes ns → 0 < length ns
    → ArePositions ns
ArePositions-spelt bytes ns spells some = record { some = some; rise = rises 0 bytes ns spells }

-- the number behind them doesn't go on, and they don't end here
pub positions_stuck : (front done : List ℕ) (last limit : ℕ) (tail : List ℕ) (k : ℕ)
    → HaveRead front done last → last + limit + 1 ≡ 2 ^ 32
    → ((rest : List ℕ) → 0 < length done → tail ≡ 0 ∷ rest → ⊥)
    → AreStuck (IsNumberUpTo limit) tail k
    → AreStuck ArePositionBytes (front ++ tail) (length front + k)
positions_stuck front done last limit tail k read most open_ stuck = record {
  within = rw (length-append front tail) (omega (arith, stuck.within));
  begins = λ some. begun k some stuck;
  ends = λ inside first rest more same word.
      let found = read.forth (take (k + 1) tail ++ more) first rest word.0
      (sym (take_behind-more front tail more k) ∙ same) word.2 in
      let here : k < length tail = omega (arith, inside, length-append front tail) in
      ended here more rest word.0 word.1 found.0 found.1 found.2 found.3 found.4;
  none = λ first rest same word.
      let found = read.forth tail first rest word.0 same word.2 in
      missing rest word.0 word.1 found.0 found.1 found.2 found.3 found.4;
}
  where
    begun : (j : ℕ) → 0 < length front + j → AreStuck (IsNumberUpTo limit) tail j
        → (more : List ℕ) × ArePositionBytes (take (length front + j) (front ++ tail) ++ more)
    begun zero some here =
        let have : 0 < length done = read.some (omega (arith, some)) in
        let nothing = take_behind front tail 0 ∙ append-nil front in (
          0 ∷ [],
          (
            done,
            have,
            subst (λ es. SpellsPositions 0 (es ++ 0 ∷ []) done) (sym nothing)
                (HaveRead-closed front done last read),
          ),
        )
    begun (suc j) some here =
        let found = here.begins (omega arith) in
        let gap = found.1.0 in
        let n = last + gap in
        let word : SpellsPositions last ((take (suc j) tail ++ found.0) ++ 0 ∷ []) (n ∷ []) = (
          take (suc j) tail ++ found.0,
          0 ∷ [],
          refl,
          (
            omega (arith, number-some (take (suc j) tail ++ found.0) gap found.1.2),
            omega (arith, most, found.1.1),
            subst (SpellsNumber (take (suc j) tail ++ found.0))
                (sym (difference last gap n refl)) found.1.2,
          ),
          refl,
        ) in
        let bytes : front ++ ((take (suc j) tail ++ found.0) ++ 0 ∷ [])
        ≡ take (length front + suc j) (front ++ tail) ++ (found.0 ++ 0 ∷ []) =
        ap (λ es. front ++ es) (append_assoc (take (suc j) tail) found.0 (0 ∷ []))
        ∙ sym (append_assoc front (take (suc j) tail) (found.0 ++ 0 ∷ []))
        ∙ ap (λ es. es ++ (found.0 ++ 0 ∷ [])) (sym (take_behind front tail (suc j))) in (
          found.0 ++ 0 ∷ [],
          (
            done ++ n ∷ [],
            rw (length-append done (n ∷ [])) (omega arith),
            subst (λ es. SpellsPositions 0 es (done ++ n ∷ [])) bytes (read.back _ (n ∷ []) word),
          ),
        )

    -- the number of what was spelt here
    up_to : (others : List ℕ) (m : ℕ) → SpellsNext last others m → IsNumberUpTo limit others
    up_to others m next = (m - last, omega (arith, most, next.0, next.1), next.2)

    ended : k < length tail → (more rest ms : List ℕ) → 0 < length ms → (others ns : List ℕ)
        → take (k + 1) tail ++ more ≡ others ++ rest → ms ≡ done ++ ns
        → SpellsPositions last others ns → ⊥
    ended here more rest ms some others [] same all spells =
        let have : 0 < length done =
        omega (arith, some, ap length (all ∙ append-nil done)) in
        let front_is = first_is tail k more rest here (same ∙ ap (λ es. es ++ rest) spells) in
        open_ front_is.0 have front_is.1
    ended here more rest ms some others (m ∷ ns) same all spells =
        stuck.ends here spells.0 (spells.1 ++ rest) more
        (same ∙ ap (λ es. es ++ rest) spells.2 ∙ append_assoc spells.0 spells.1 rest)
        (up_to spells.0 m spells.3)

    missing : (rest ms : List ℕ) → 0 < length ms → (others ns : List ℕ)
        → tail ≡ others ++ rest → ms ≡ done ++ ns → SpellsPositions last others ns → ⊥
    missing rest ms some others [] same all spells =
        let have : 0 < length done =
        omega (arith, some, ap length (all ∙ append-nil done)) in
        open_ rest have (same ∙ ap (λ es. es ++ rest) spells)
    missing rest ms some others (m ∷ ns) same all spells =
        stuck.none spells.0 (spells.1 ++ rest)
        (same ∙ ap (λ es. es ++ rest) spells.2 ∙ append_assoc spells.0 spells.1 rest)
        (up_to spells.0 m spells.3)

-- ---- a document

-- position 1 alone
one_position : SpellsPositions 0 (1 ∷ 0 ∷ []) (1 ∷ [])
one_position = (1 ∷ [], 0 ∷ [], refl, (omega arith, omega arith, (omega arith, omega arith, refl)), refl)

-- its number doesn't go on
pub document_stuck-number : (before limit : ℕ) (bytes : List ℕ) (k : ℕ)
    → before + limit + 1 ≡ 2 ^ 32 → AreStuck (IsNumberUpTo limit) bytes k
    → AreStuck (IsDocumentAbove before) bytes k
document_stuck-number before limit bytes k most stuck = record {
  within = stuck.within;
  begins = λ some.
      let found = stuck.begins some in
      let gap = found.1.0 in
      let n = before + gap in
      let number = take k bytes ++ found.0 in
      let next : SpellsNext before number n = (
        omega (arith, number-some number gap found.1.2),
        omega (arith, most, found.1.1),
        subst (SpellsNumber number) (sym (difference before gap n refl)) found.1.2,
      ) in (
        found.0 ++ 1 ∷ 0 ∷ [],
        (
          (n, 1 ∷ []),
          subst (λ es. SpellsDocument before es (n, 1 ∷ []))
              (append_assoc (take k bytes) found.0 (1 ∷ 0 ∷ []))
              (number, 1 ∷ 0 ∷ [], refl, next, omega arith, one_position),
        ),
      );
  ends = λ inside first rest more same word.
      stuck.ends inside word.1.0 (word.1.1 ++ rest) more
      (same ∙ regrouped first word.1.0 word.1.1 rest word.1.2)
      (up_to word.1.0 word.0.0 word.1.3);
  none = λ first rest same word.
      stuck.none word.1.0 (word.1.1 ++ rest)
      (same ∙ regrouped first word.1.0 word.1.1 rest word.1.2)
      (up_to word.1.0 word.0.0 word.1.3);
}
  where
    up_to : (others : List ℕ) (m : ℕ) → SpellsNext before others m → IsNumberUpTo limit others
    up_to others m next = (m - before, omega (arith, most, next.0, next.1), next.2)

-- its positions don't go on
pub document_stuck-positions : (before n : ℕ) (number tail : List ℕ) (k : ℕ)
    → SpellsNext before number n → AreStuck ArePositionBytes tail k
    → AreStuck (IsDocumentAbove before) (number ++ tail) (length number + k)
document_stuck-positions before n number tail k next stuck = record {
  within = rw (length-append number tail) (omega (arith, stuck.within));
  begins = λ some. begun k stuck;
  ends = λ inside first rest more same word.
      let here : k < length tail = omega (arith, inside, length-append number tail) in
      stuck.ends here word.1.1 rest more
      (behind (take (k + 1) tail ++ more) first rest word.0 word.1
      (sym (take_behind-more number tail more k) ∙ same))
      (word.0.1, word.1.4, word.1.5);
  none = λ first rest same word.
      stuck.none word.1.1 rest (behind tail first rest word.0 word.1 same)
      (word.0.1, word.1.4, word.1.5);
}
  where
    behind : (xs first rest : List ℕ) (e : DocumentPositions) → (spells : SpellsDocument before first e)
        → number ++ xs ≡ first ++ rest → xs ≡ spells.1 ++ rest
    behind xs first rest e spells same =
        (number-front number spells.0 xs (spells.1 ++ rest) (n - before) (e.0 - before) next.2
        spells.3.2 (same ∙ regrouped first spells.0 spells.1 rest spells.2)).2

    begun : (j : ℕ) → AreStuck ArePositionBytes tail j
        → (more : List ℕ) × IsDocumentAbove before (take (length number + j) (number ++ tail) ++ more)
    begun zero here =
        let nothing = take_behind number tail 0 ∙ append-nil number in (
          1 ∷ 0 ∷ [],
          (
            (n, 1 ∷ []),
            subst (λ es. SpellsDocument before (es ++ 1 ∷ 0 ∷ []) (n, 1 ∷ [])) (sym nothing)
                (number, 1 ∷ 0 ∷ [], refl, next, omega arith, one_position),
          ),
        )
    begun (suc j) here =
        let found = here.begins (omega arith) in
        let ns = found.1.0 in
        let bytes : number ++ (take (suc j) tail ++ found.0)
        ≡ take (length number + suc j) (number ++ tail) ++ found.0 =
        sym (append_assoc number (take (suc j) tail) found.0)
        ∙ ap (λ es. es ++ found.0) (sym (take_behind number tail (suc j))) in (
          found.0,
          (
            (n, ns),
            subst (λ es. SpellsDocument before es (n, ns)) bytes
                (number, take (suc j) tail ++ found.0, refl, next, found.1.1, found.1.2),
          ),
        )

-- ---- a list

-- some documents were read, the last of which is `before`, or none and it is 0
pub record HaveReadList (front : List ℕ) (done : PostingList) (before : ℕ) : Type 0 where
  pub back : (tail : List ℕ) (es : PostingList) → SpellsDocuments before tail es
      → Spells (front ++ tail) (done ++ es)
  pub forth : (tail : List ℕ) (list : PostingList) → Spells (front ++ tail) list
      → (es : PostingList) × SpellsDocuments before tail es

pub HaveReadList-none : HaveReadList [] [] 0
HaveReadList-none = record {
  back = λ tail es spells. spells;
  forth = λ tail list spells. (list, spells);
}

pub HaveReadList-more : (front : List ℕ) (done : PostingList) (before : ℕ) (word : List ℕ)
    (e : DocumentPositions) → HaveReadList front done before → SpellsDocument before word e
    → HaveReadList (front ++ word) (done ++ e ∷ []) e.0
HaveReadList-more front done before word e read spelt = record {
  back = λ tail es spells.
      subst (λ bs. Spells bs ((done ++ e ∷ []) ++ es)) (sym (append_assoc front word tail))
      (subst (Spells (front ++ (word ++ tail))) (sym (append_assoc done (e ∷ []) es))
      (read.back (word ++ tail) (e ∷ es) (word, tail, refl, spelt, spells)));
  forth = λ tail list spells.
      let found = read.forth (word ++ tail) list
      (subst (λ bs. Spells bs list) (append_assoc front word tail) spells) in
      behind tail found.0 found.1;
}
  where
    behind : (tail : List ℕ) (es : PostingList) → SpellsDocuments before (word ++ tail) es
        → (others : PostingList) × SpellsDocuments e.0 tail others
    behind tail [] spells = absurd (document-not_empty before e word tail spelt spells)
    behind tail (f ∷ fs) spells =
        let parts = document-front before e f word spells.0 tail spells.1 spelt spells.3 spells.2 in (
          fs,
          subst (λ (g : DocumentPositions). SpellsDocuments g.0 tail fs) (sym parts.0)
              (subst (λ bs. SpellsDocuments f.0 bs fs) (sym parts.1) spells.4),
        )

-- where the bytes end
pub HaveReadList-whole : (bytes : List ℕ) (done : PostingList) (before : ℕ)
    → HaveReadList bytes done before → Spells bytes done
HaveReadList-whole bytes done before read =
    subst (λ bs. Spells bs done) (append-nil bytes)
    (subst (Spells (bytes ++ [])) (append-nil done) (read.back [] [] refl))

-- the document behind them doesn't go on
pub list_bad : (front : List ℕ) (done : PostingList) (before : ℕ) (tail : List ℕ) (k : ℕ)
    → HaveReadList front done before → 0 < length tail
    → AreStuck (IsDocumentAbove before) tail k → AreBadAt (front ++ tail) (length front + k)
list_bad front done before tail k read some stuck = record {
  none = λ list spells.
      let found = read.forth tail list spells in missing found.0 found.1;
  within = rw (length-append front tail) (omega (arith, stuck.within));
  begins = begun k stuck;
  ends = λ inside begins.
      let here : k < length tail = omega (arith, inside, length-append front tail) in
      let found = read.forth (take (k + 1) tail ++ begins.0) begins.1
      (subst (λ bs. Spells bs begins.1) (take_behind-more front tail begins.0 k) begins.2) in
      ended here begins.0 found.0 found.1;
}
  where
    missing : (es : PostingList) → SpellsDocuments before tail es → ⊥
    missing [] spells = omega (arith, some, ap length spells)
    missing (e ∷ es) spells = stuck.none spells.0 spells.1 spells.2 (e, spells.3)

    ended : k < length tail → (more : List ℕ) (es : PostingList)
        → SpellsDocuments before (take (k + 1) tail ++ more) es → ⊥
    ended here more [] spells = not_nothing tail here spells
      where
        not_nothing : (bytes : List ℕ) → k < length bytes → take (k + 1) bytes ++ more ≡ [] → ⊥
        not_nothing [] inside same = omega (arith, inside)
        not_nothing (b ∷ bs) inside same =
            let shifted : b ∷ (take k bs ++ more) ≡ [] =
            sym (ap (λ es. es ++ more) (take-suc k b bs)) ∙ same in
            cc shifted
    ended here more (e ∷ es) spells =
        stuck.ends here spells.0 spells.1 more spells.2 (e, spells.3)

    begun : (j : ℕ) → AreStuck (IsDocumentAbove before) tail j
        → Begins (take (length front + j) (front ++ tail))
    begun zero here =
        let nothing = take_behind front tail 0 ∙ append-nil front in (
          [],
          done,
          subst (λ bs. Spells bs done) (sym (append-nil _ ∙ nothing))
              (HaveReadList-whole front done before read),
        )
    begun (suc j) here =
        let found = here.begins (omega arith) in
        let word = take (suc j) tail ++ found.0 in
        let bytes : front ++ word ≡ take (length front + suc j) (front ++ tail) ++ found.0 =
        sym (append_assoc front (take (suc j) tail) found.0)
        ∙ ap (λ es. es ++ found.0) (sym (take_behind front tail (suc j))) in (
          found.0,
          done ++ found.1.0 ∷ [],
          subst (λ bs. Spells bs (done ++ found.1.0 ∷ [])) bytes
              (read.back word (found.1.0 ∷ []) (word, [], sym (append-nil word), found.1.1, refl)),
        )

-- ---- bytes cut at a place

-- what an index from a place on gives
pub behind-is : (n : ℕ) (bytes : List ℕ) → take (length bytes - n) (drop n bytes) ≡ drop n bytes
behind-is n bytes =
    let all : length (drop n bytes) ≤ length bytes - n = grind (arith, common_steps) in
    take_all (length bytes - n) (drop n bytes) all

pub take_two : (len more : ℕ) (bytes : List ℕ) → len ≤ length bytes
    → take (len + more) bytes ≡ take len bytes ++ take more (drop len bytes)
take_two len more bytes within =
    let front = take len bytes in
    let long : length front ≡ len = length-take-le len bytes within in
    ap₂ take (ap (λ n. n + more) (sym long)) (sym (take-append-drop len bytes))
    ∙ take_behind front (drop len bytes) more

pub stuck-behind : (IsWord : List ℕ → Type 0) (len : ℕ) (bytes : List ℕ) (k : ℕ) → len ≤ length bytes
    → AreStuck IsWord (take len bytes ++ drop len bytes) (length (take len bytes) + k)
    → AreStuck IsWord bytes (len + k)
stuck-behind IsWord len bytes k within stuck =
    subst (AreStuck IsWord bytes) (ap (λ n. n + k) (length-take-le len bytes within))
    (subst (λ bs. AreStuck IsWord bs (length (take len bytes) + k)) (take-append-drop len bytes)
    stuck)

pub bad-behind : (len : ℕ) (bytes : List ℕ) (k : ℕ) → len ≤ length bytes
    → AreBadAt (take len bytes ++ drop len bytes) (length (take len bytes) + k)
    → AreBadAt bytes (len + k)
bad-behind len bytes k within bad =
    subst (AreBadAt bytes) (ap (λ n. n + k) (length-take-le len bytes within))
    (subst (λ bs. AreBadAt bs (length (take len bytes) + k)) (take-append-drop len bytes) bad)
