-- What one step of the scanner finds, in the words of the reading.
use Rattle.std.proofs.Common.{◌≡◌, ℕ, ◌-◌, ◌<◌, ◌≤◌, true, false, eqb, List, ◌++◌, Some, Result, Ok, Err, refl, ◌∙◌, arith}
use Rattle.std.proofs.lemmas.Bool.{eq-eqb, ne_eqb}
use Rattle.std.proofs.lemmas.Bool.Decides.{nat_tests}
use Rattle.ber_core.specs.Window.{Stop, More, Window, ◌>>=◌, tag_here, open_here, open_as, octets, skip_one}
use Rattle.request_wait.specs.declared.part.Part.{Part}
use Rattle.request_wait.specs.declared.part.Leaf.{Leaf}
use Rattle.request_wait.specs.declared.part.Content.{Content}
use Rattle.request_wait.specs.declared.part.Content.TheVariants as content
use Rattle.request_wait.specs.declared.part.Choice.{Choice}
use Rattle.request_wait.specs.declared.place.Place.{Place}
use Rattle.request_wait.specs.declared.next.Next.{Next}
use Rattle.request_wait.specs.declared.next.Next.TheVariants as next
use Rattle.request_wait.specs.Table.{octets as text, content_by}
use Rattle.request_wait.specs.Inside.{Outcome, done, outcome, inside, of_leaf, one, many_of, optional_of, choice_of, many_of_choice, some_of, skip_of, start_of}
use Rattle.request_wait.specs.Place.{seen, read_from, place_at}
use Rattle.request_wait.specs.Comes.{Comes}
use Rattle.request_wait.proofs.Stays.{ok_again, opens_again, leaf_stays}

-- ---- readings that agree here, now and later

pub comes_as : (read other : Window → Outcome) (n : Next) (p : Place) (bytes : List ℕ) → other (seen bytes p) ≡ read (seen bytes p) → ((more : List ℕ) → other (seen (bytes ++ more) p) ≡ read (seen (bytes ++ more) p)) → Comes n read p bytes → Comes n other p bytes
comes_as read other next.Waits p bytes now later c = now ∙ c
comes_as read other next.Unsure p bytes now later c = tt
comes_as read other (next.Goes here) p bytes now later c = λ more. later more ∙ c more
comes_as read other (next.Enters inner rest) p bytes now later c = λ more. later more ∙ c more
comes_as read other next.Leaves p bytes now later c = λ more. later more ∙ c more

-- ---- one element

pub one_waits : (tag : ℕ) (content : Content) (next : Part) (w : Window) → open_as tag w ≡ Err More → one tag content next w ≡ Err More
unfolding one
one_waits tag content next w is = rw is refl

pub leaf_waits : (tag : ℕ) (l : Leaf) (next : Part) (w : Window) (o : Window × Window) → open_as tag w ≡ Ok o → of_leaf l o.0 ≡ Err More → one tag (content.Leaf l) next w ≡ Err More
unfolding one
leaf_waits tag l next w o is more = rw is (rw more refl)

pub one_enters : (tag : ℕ) (part next : Part) (bytes : List ℕ) (p : Place) (o : Window × Window) → open_as tag (seen bytes p) ≡ Ok o
    → (more : List ℕ) → one tag (content.Inner part) next (seen (bytes ++ more) p) ≡ (read_from (place_at part o.0) (bytes ++ more) >>= λ u. read_from (place_at next o.1) (bytes ++ more))
unfolding one
one_enters tag part next bytes p o is more = rw (opens_again tag bytes more p part next o is).again refl

pub leaf_goes : (tag : ℕ) (l : Leaf) (next : Part) (bytes : List ℕ) (p : Place) (o : Window × Window) → open_as tag (seen bytes p) ≡ Ok o → of_leaf l o.0 ≡ done
    → (more : List ℕ) → one tag (content.Leaf l) next (seen (bytes ++ more) p) ≡ read_from (place_at next o.1) (bytes ++ more)
unfolding one
leaf_goes tag l next bytes p o is fine more =
    let again = opens_again tag bytes more p next next o is in
    let k = ok_again (leaf_stays l o.0 (seen (bytes ++ more) (place_at next o.0)) again.inner) tt fine in
    rw again.again (rw k.1 refl)

-- ---- the end of the element around the place

at_end : (p : Place) → p.end ≤ p.at → eqb (p.end - p.at) 0 ≡ true
at_end p le = grind (arith, nat_tests)

before_end : (p : Place) → p.at < p.end → eqb (p.end - p.at) 0 ≡ false
before_end p lt = grind (arith, nat_tests)

pub many_ends : (tag : ℕ) (content : Content) (part : Part) (p : Place) (bytes : List ℕ) → p.end ≤ p.at → many_of tag content part (seen bytes p) ≡ done
unfolding many_of
many_ends tag content part p bytes le = rw (at_end p le) refl

pub many_goes : (tag : ℕ) (content : Content) (part : Part) (p : Place) (bytes : List ℕ) → p.at < p.end → many_of tag content part (seen bytes p) ≡ one tag content part (seen bytes p)
unfolding many_of
many_goes tag content part p bytes lt = rw (before_end p lt) refl

-- ---- an element that may be left out

pub optional_ends : (tag : ℕ) (content : Content) (found missing : Part) (p : Place) (bytes : List ℕ) → p.end ≤ p.at → optional_of tag content found missing (seen bytes p) ≡ inside missing (seen bytes p)
unfolding optional_of
optional_ends tag content found missing p bytes le = rw (at_end p le) refl

pub optional_waits : (tag : ℕ) (content : Content) (found missing : Part) (p : Place) (bytes : List ℕ) → p.at < p.end → tag_here (seen bytes p) ≡ Err More → optional_of tag content found missing (seen bytes p) ≡ Err More
unfolding optional_of
optional_waits tag content found missing p bytes lt more = rw (before_end p lt, more) refl

pub optional_found : (tag : ℕ) (content : Content) (found missing : Part) (p : Place) (bytes : List ℕ) (t : ℕ) → p.at < p.end → tag_here (seen bytes p) ≡ Ok t → t ≡ tag → optional_of tag content found missing (seen bytes p) ≡ one tag content found (seen bytes p)
unfolding optional_of
optional_found tag content found missing p bytes t lt is same = rw (before_end p lt, is, eq-eqb t tag same) refl

pub optional_missing : (tag : ℕ) (content : Content) (found missing : Part) (p : Place) (bytes : List ℕ) (t : ℕ) → p.at < p.end → tag_here (seen bytes p) ≡ Ok t → (t ≡ tag → ⊥) → optional_of tag content found missing (seen bytes p) ≡ inside missing (seen bytes p)
unfolding optional_of
optional_missing tag content found missing p bytes t lt is other = rw (before_end p lt, is, ne_eqb t tag other) refl

-- ---- an element by its tag

pub choice_waits : (choice : Choice) (next part : Part) (w : Window) → tag_here w ≡ Err More → choice_of choice next part w ≡ Err More
unfolding choice_of
choice_waits choice next part w more = rw more refl

pub choice_goes : (choice : Choice) (next part : Part) (w : Window) (t : ℕ) (x : Content) → tag_here w ≡ Ok t → content_by choice t ≡ Some x → choice_of choice next part w ≡ one t x next w
unfolding choice_of
choice_goes choice next part w t x is by = rw is (rw by refl)

pub known_tag : (w : Window) (t : ℕ) → tag_here w ≡ Ok t → open_as t w ≡ open_here w
unfolding open_as
known_tag w t is = rw (is, eq-eqb t t refl) refl

-- ---- an element that is skipped

skip_leaf : (o : Window × Window) (r : Result (List ℕ) Stop) (k : Window → Outcome) → (r >>= (λ bytes. Ok o.1) >>= k) ≡ (outcome r >>= λ u. k o.1)
skip_leaf o (Ok bytes) k = refl
skip_leaf o (Err e) k = refl

skip_step : (r : Result (Window × Window) Stop) (k : Window → Outcome) → ((r >>= λ o. octets o.0 >>= λ bytes. Ok o.1) >>= k) ≡ (r >>= λ o. outcome (octets o.0) >>= λ u. k o.1)
skip_step (Ok o) k = skip_leaf o (octets o.0) k
skip_step (Err e) k = refl

pub skip_ends : (part : Part) (p : Place) (bytes : List ℕ) → p.end ≤ p.at → skip_of part (seen bytes p) ≡ done
unfolding skip_of
skip_ends part p bytes le = rw (at_end p le) refl

pub skip_waits : (part : Part) (p : Place) (bytes : List ℕ) → p.at < p.end → tag_here (seen bytes p) ≡ Err More → skip_of part (seen bytes p) ≡ Err More
unfolding skip_of skip_one
skip_waits part p bytes lt more = rw (before_end p lt, more) refl

pub skip_goes : (part : Part) (p : Place) (bytes : List ℕ) (t : ℕ) → p.at < p.end → tag_here (seen bytes p) ≡ Ok t → skip_of part (seen bytes p) ≡ one t text part (seen bytes p)
unfolding skip_of skip_one one
skip_goes part p bytes t lt is = rw (before_end p lt, known_tag (seen bytes p) t is, is) (skip_step (open_here (seen bytes p)) (inside part))

-- ---- the message

pub start_waits : (next : Part) (w : Window) → open_as 0x30 w ≡ Err More → start_of next w ≡ Err More
unfolding start_of
start_waits next w more = rw more refl

pub start_goes : (next : Part) (bytes : List ℕ) (p : Place) (o : Window × Window) → open_as 0x30 (seen bytes p) ≡ Ok o → (more : List ℕ) → start_of next (seen (bytes ++ more) p) ≡ read_from (place_at next o.0) (bytes ++ more)
unfolding start_of
start_goes next bytes p o is more = rw (opens_again 0x30 bytes more p next next o is).again refl

-- ---- lists of filters, and what is not empty

pub choices_end : (choice : Choice) (part : Part) (p : Place) (bytes : List ℕ) → p.end ≤ p.at → many_of_choice choice part (seen bytes p) ≡ done
unfolding many_of_choice
choices_end choice part p bytes le = rw (at_end p le) refl

pub choices_go : (choice : Choice) (part : Part) (p : Place) (bytes : List ℕ) → p.at < p.end → many_of_choice choice part (seen bytes p) ≡ choice_of choice part part (seen bytes p)
unfolding many_of_choice
choices_go choice part p bytes lt = rw (before_end p lt) refl

pub some_goes : (next : Part) (p : Place) (bytes : List ℕ) → p.at < p.end → some_of next (seen bytes p) ≡ inside next (seen bytes p)
unfolding some_of
some_goes next p bytes lt = rw (before_end p lt) refl
