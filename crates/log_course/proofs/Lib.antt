mod CourseLaws
