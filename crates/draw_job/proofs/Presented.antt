-- The page of points, written.
use Rattle.std.proofs.Common.{◌≡◌, ℕ, List, [], Option, append-nil, arith, inl, inr, length, max, min, refl, subst, sym}
use Rattle.std.proofs.KnownBytes.{Appends-kept, Appends-trans}
use Rattle.std.specs.Io.KnownBytes.{Appends}
use Rattle.draw_html.specs.Pages.{escaped, page_end, page_front, page_start}
use Rattle.draw_job.proofs.Described.{beginning_behind}
use Rattle.draw_job.specs.Forms.{HasStoppedIn}
use Rattle.draw_job.specs.PlanEnds.{HasLine}
use Rattle.draw_job.specs.Pages.{HasNotPresented, HasPresented, HasStoppedPage, HasWrittenPage}
use Rattle.draw_job.specs.Texts.{HasWrittenUntil, HoldsForAll}
use Rattle.draw_job.specs.declared.forms.Form.TheVariants.{Escaped}
use Rattle.draw_picture.specs.Notes.{file_title}
use Rattle.model_jobs.specs.Jobs.{Job}
use Rattle.text_devices.specs.Transfer.{AppendsBeginning}
use Rattle.text_devices.specs.declared.faults.ReplayError.{ReplayError}
use Rattle.text_devices.specs.declared.faults.ReplayError.TheVariants.{Read, Write, Text, Memory}
use Rattle.text_job.specs.Read.{HasReadJob}

module _ (title : List ℕ) (from to : ℕ) (job : Job) (old new : Option (List ℕ)) where
  -- what was written if the page before the points can't be written
  pub start_stopped : (error : ReplayError) → HasStoppedIn (page_start title) old new error → HasStoppedPage title from to job old new error
  start_stopped Read stopped = absurd stopped
  start_stopped Write stopped = inl (record {
    lines = 0;
    within = search arith;
    text = [];
    is_text = refl;
    holds = subst (λ (bytes : List ℕ). AppendsBeginning old new bytes) (sym (append-nil (page_start title))) stopped;
  })
  start_stopped (Text fault) stopped = absurd stopped
  start_stopped Memory stopped = inl stopped

  module _ (mid : Option (List ℕ)) where
    -- what was written if the points can't be written behind it
    pub points_stopped : Appends old mid (page_start title) → (error : ReplayError) → HasWrittenUntil Escaped from to job mid new error
        → HasStoppedPage title from to job old new error
    points_stopped wrote Read stopped = absurd stopped
    points_stopped wrote Write stopped = inl (record {
      lines = stopped.lines;
      within = stopped.within;
      text = stopped.text;
      is_text = stopped.is_text;
      holds = beginning_behind old mid new (page_start title) (escaped stopped.text) wrote stopped.holds;
    })
    points_stopped wrote (Text fault) stopped = absurd stopped
    points_stopped wrote Memory stopped = inr (record {
      lines = stopped.lines;
      within = stopped.within;
      text = stopped.text;
      is_text = stopped.is_text;
      holds = Appends-trans old mid new (page_start title) (escaped stopped.text) wrote stopped.holds;
    })

    -- the points were written behind the page before them
    pub front_written : Appends old mid (page_start title) → HoldsForAll from to job (λ text. Appends mid new (escaped text))
        → HoldsForAll from to job (λ text. Appends old new (page_front title text))
    front_written wrote points = record {
      text = points.text;
      is_text = points.is_text;
      holds = Appends-trans old mid new (page_start title) (escaped points.text) wrote points.holds;
    }

    module _ (front : HoldsForAll from to job (λ text. Appends old mid (page_front title text))) where
      -- the page was written to its end
      pub page_written : Appends mid new page_end → HasWrittenPage title from to job old new
      page_written wrote = record {
        text = front.text;
        is_text = front.is_text;
        holds = Appends-trans old mid new (page_front title front.text) page_end front.holds wrote;
      }

      -- what was written if the page behind the points can't be written
      pub end_stopped : (error : ReplayError) → HasStoppedIn page_end mid new error → HasStoppedPage title from to job old new error
      end_stopped Read stopped = absurd stopped
      end_stopped Write stopped = inr (record {
        text = front.text;
        is_text = front.is_text;
        holds = beginning_behind old mid new (page_front title front.text) page_end front.holds stopped;
      })
      end_stopped (Text fault) stopped = absurd stopped
      end_stopped Memory stopped = inr (record {
        lines = min to (length job.plan);
        within = search arith;
        text = front.text;
        is_text = front.is_text;
        holds = Appends-kept old mid new (page_front title front.text) front.holds stopped;
      })

module _ (name title : List ℕ) (from to first : ℕ) (left left' old new : Option (List ℕ)) (job : Job) (read : HasReadJob left left' job) (is_title : title ≡ file_title name)
    (is_first : first ≡ max from 1) where
  -- a page was written whose job was read, and whose plan has the first line that is asked for
  pub presented : HasLine from job → HasWrittenPage title first to job old new → HasPresented name from to left left' old new
  presented line page = record {
    job = job;
    read = read;
    does = (line, subst (λ n. HasWrittenPage (file_title name) n to job old new) is_first (subst (λ (t : List ℕ). HasWrittenPage t first to job old new) is_title page));
  }

  stopped_as : (error : ReplayError) → HasStoppedPage (file_title name) (max from 1) to job old new error → HasNotPresented name from to left left' old new error
  stopped_as Read stopped = absurd stopped
  stopped_as Write stopped = record { job = job; read = read; does = stopped }
  stopped_as (Text fault) stopped = absurd stopped
  stopped_as Memory (inl kept) = inl kept
  stopped_as Memory (inr front) = inr (record { job = job; read = read; does = front })

  -- what was read and written if a page stopped whose job was read
  pub not_presented : (error : ReplayError) → HasStoppedPage title first to job old new error → HasNotPresented name from to left left' old new error
  not_presented error stopped =
      stopped_as error (subst (λ n. HasStoppedPage (file_title name) n to job old new error) is_first
      (subst (λ (t : List ℕ). HasStoppedPage t first to job old new error) is_title stopped))
